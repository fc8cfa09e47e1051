-- The book with one part changed: a function for each part that the rules change. Nothing else stands here.
use Rattle.std.specs.Prelude.{ℕ, List}
use Rattle.std.specs.Prelude.{Option}
use Rattle.model.specs.declared.Lease.{Lease}
use Rattle.model.specs.declared.Active.{Active}
use Rattle.model.specs.declared.Replay.{Replay}
use Rattle.model.specs.declared.Receipt.{Receipt}
use Rattle.model.specs.declared.RuntimeState.{RuntimeState}
use Rattle.rules.specs.Book.{Book}

unfoldable pub with_leases : List (Option Lease) → Book → Book
with_leases x b =
    record {
      config = b.config;
      boot_id = b.boot_id;
      capabilities = b.capabilities;
      leases = x;
      active = b.active;
      replay = b.replay;
      receipts = b.receipts;
      next_receipt = b.next_receipt;
      next_lease = b.next_lease;
      epoch = b.epoch;
      flags = b.flags;
      state_at = b.state_at;
      last_tick = b.last_tick;
      state = b.state;
      invalid_count = b.invalid_count;
      estop_seen = b.estop_seen;
    }

unfoldable pub with_active : List (Option Active) → Book → Book
with_active x b =
    record {
      config = b.config;
      boot_id = b.boot_id;
      capabilities = b.capabilities;
      leases = b.leases;
      active = x;
      replay = b.replay;
      receipts = b.receipts;
      next_receipt = b.next_receipt;
      next_lease = b.next_lease;
      epoch = b.epoch;
      flags = b.flags;
      state_at = b.state_at;
      last_tick = b.last_tick;
      state = b.state;
      invalid_count = b.invalid_count;
      estop_seen = b.estop_seen;
    }

unfoldable pub with_replay : List Replay → Book → Book
with_replay x b =
    record {
      config = b.config;
      boot_id = b.boot_id;
      capabilities = b.capabilities;
      leases = b.leases;
      active = b.active;
      replay = x;
      receipts = b.receipts;
      next_receipt = b.next_receipt;
      next_lease = b.next_lease;
      epoch = b.epoch;
      flags = b.flags;
      state_at = b.state_at;
      last_tick = b.last_tick;
      state = b.state;
      invalid_count = b.invalid_count;
      estop_seen = b.estop_seen;
    }

unfoldable pub with_receipts : List Receipt → Book → Book
with_receipts x b =
    record {
      config = b.config;
      boot_id = b.boot_id;
      capabilities = b.capabilities;
      leases = b.leases;
      active = b.active;
      replay = b.replay;
      receipts = x;
      next_receipt = b.next_receipt;
      next_lease = b.next_lease;
      epoch = b.epoch;
      flags = b.flags;
      state_at = b.state_at;
      last_tick = b.last_tick;
      state = b.state;
      invalid_count = b.invalid_count;
      estop_seen = b.estop_seen;
    }

unfoldable pub with_next_receipt : ℕ → Book → Book
with_next_receipt x b =
    record {
      config = b.config;
      boot_id = b.boot_id;
      capabilities = b.capabilities;
      leases = b.leases;
      active = b.active;
      replay = b.replay;
      receipts = b.receipts;
      next_receipt = x;
      next_lease = b.next_lease;
      epoch = b.epoch;
      flags = b.flags;
      state_at = b.state_at;
      last_tick = b.last_tick;
      state = b.state;
      invalid_count = b.invalid_count;
      estop_seen = b.estop_seen;
    }

unfoldable pub with_next_lease : ℕ → Book → Book
with_next_lease x b =
    record {
      config = b.config;
      boot_id = b.boot_id;
      capabilities = b.capabilities;
      leases = b.leases;
      active = b.active;
      replay = b.replay;
      receipts = b.receipts;
      next_receipt = b.next_receipt;
      next_lease = x;
      epoch = b.epoch;
      flags = b.flags;
      state_at = b.state_at;
      last_tick = b.last_tick;
      state = b.state;
      invalid_count = b.invalid_count;
      estop_seen = b.estop_seen;
    }

unfoldable pub with_epoch : ℕ → Book → Book
with_epoch x b =
    record {
      config = b.config;
      boot_id = b.boot_id;
      capabilities = b.capabilities;
      leases = b.leases;
      active = b.active;
      replay = b.replay;
      receipts = b.receipts;
      next_receipt = b.next_receipt;
      next_lease = b.next_lease;
      epoch = x;
      flags = b.flags;
      state_at = b.state_at;
      last_tick = b.last_tick;
      state = b.state;
      invalid_count = b.invalid_count;
      estop_seen = b.estop_seen;
    }

unfoldable pub with_flags : ℕ → Book → Book
with_flags x b =
    record {
      config = b.config;
      boot_id = b.boot_id;
      capabilities = b.capabilities;
      leases = b.leases;
      active = b.active;
      replay = b.replay;
      receipts = b.receipts;
      next_receipt = b.next_receipt;
      next_lease = b.next_lease;
      epoch = b.epoch;
      flags = x;
      state_at = b.state_at;
      last_tick = b.last_tick;
      state = b.state;
      invalid_count = b.invalid_count;
      estop_seen = b.estop_seen;
    }

unfoldable pub with_state_at : ℕ → Book → Book
with_state_at x b =
    record {
      config = b.config;
      boot_id = b.boot_id;
      capabilities = b.capabilities;
      leases = b.leases;
      active = b.active;
      replay = b.replay;
      receipts = b.receipts;
      next_receipt = b.next_receipt;
      next_lease = b.next_lease;
      epoch = b.epoch;
      flags = b.flags;
      state_at = x;
      last_tick = b.last_tick;
      state = b.state;
      invalid_count = b.invalid_count;
      estop_seen = b.estop_seen;
    }

unfoldable pub with_last_tick : ℕ → Book → Book
with_last_tick x b =
    record {
      config = b.config;
      boot_id = b.boot_id;
      capabilities = b.capabilities;
      leases = b.leases;
      active = b.active;
      replay = b.replay;
      receipts = b.receipts;
      next_receipt = b.next_receipt;
      next_lease = b.next_lease;
      epoch = b.epoch;
      flags = b.flags;
      state_at = b.state_at;
      last_tick = x;
      state = b.state;
      invalid_count = b.invalid_count;
      estop_seen = b.estop_seen;
    }

unfoldable pub with_state : RuntimeState → Book → Book
with_state x b =
    record {
      config = b.config;
      boot_id = b.boot_id;
      capabilities = b.capabilities;
      leases = b.leases;
      active = b.active;
      replay = b.replay;
      receipts = b.receipts;
      next_receipt = b.next_receipt;
      next_lease = b.next_lease;
      epoch = b.epoch;
      flags = b.flags;
      state_at = b.state_at;
      last_tick = b.last_tick;
      state = x;
      invalid_count = b.invalid_count;
      estop_seen = b.estop_seen;
    }

unfoldable pub with_invalid_count : ℕ → Book → Book
with_invalid_count x b =
    record {
      config = b.config;
      boot_id = b.boot_id;
      capabilities = b.capabilities;
      leases = b.leases;
      active = b.active;
      replay = b.replay;
      receipts = b.receipts;
      next_receipt = b.next_receipt;
      next_lease = b.next_lease;
      epoch = b.epoch;
      flags = b.flags;
      state_at = b.state_at;
      last_tick = b.last_tick;
      state = b.state;
      invalid_count = x;
      estop_seen = b.estop_seen;
    }

unfoldable pub with_estop_seen : ℕ → Book → Book
with_estop_seen x b =
    record {
      config = b.config;
      boot_id = b.boot_id;
      capabilities = b.capabilities;
      leases = b.leases;
      active = b.active;
      replay = b.replay;
      receipts = b.receipts;
      next_receipt = b.next_receipt;
      next_lease = b.next_lease;
      epoch = b.epoch;
      flags = b.flags;
      state_at = b.state_at;
      last_tick = b.last_tick;
      state = b.state;
      invalid_count = b.invalid_count;
      estop_seen = x;
    }
