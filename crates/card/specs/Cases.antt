-- Worked receipts: one table, with the bytes and the words of each, and one fact about it, which antt computes. The other vectors of docs/CARD.md are
-- run by a program (crates/card_main).
use Rattle.std.specs.Prelude.{ℕ, true, false, List, [], ◌∷◌, ◌++◌, map, ◌≡◌, refl, pos, negsuc}
use Rattle.model.specs.Decisions.{decision_number}
use Rattle.model.specs.declared.Decision.TheVariants as Decision
use Rattle.model.specs.declared.Reason.TheVariants as Reason
use Rattle.model.specs.declared.Receipt.{Receipt}
use Rattle.words.specs.Signs.{unsigned, signed}
use Rattle.words.specs.Words.{little_end, little_number}
use Rattle.card.specs.Card.{widths, pair_number, pair_of, bit, numbers_of, receipt_with, receipt_from, receipt_of, stands, map_of, fields_of, body_of, sum, framed, record_of, field_in, joined, fields_in, is_framed, receipt_in, Found, Accepts, judged, entry_in}
use Rattle.card.specs.Wire.{wire_words_from, wire_words}

-- the receipts of 01's cases A, a grant, and C, an order carried out
unfoldable pub grant : Receipt
grant =
    record {
      boot_id = 42;
      principal = 7;
      safety_flags = 0;
      receipt_id = 1;
      action_id = 0;
      sequence = 0;
      capability = 0;
      resource = 0;
      lease_id = 1;
      decision = Decision.Control;
      reason = Reason.LeaseGranted;
      epoch = 2;
      received_at = 0;
      admitted_at = 0;
      executed_at = 0;
      requested = pos 0 ∷ pos 0 ∷ [];
      observed = pos 0 ∷ pos 0 ∷ [];
      pre_state = 0;
      post_state = 0;
      original_receipt = 0;
      dispatched = false;
      observed_valid = false;
    }

unfoldable pub order : Receipt
order =
    record {
      boot_id = 42;
      principal = 7;
      safety_flags = 0;
      receipt_id = 2;
      action_id = 1;
      sequence = 1;
      capability = 1;
      resource = 0;
      lease_id = 1;
      decision = Decision.Executed;
      reason = Reason.Ok;
      epoch = 2;
      received_at = 0;
      admitted_at = 10;
      executed_at = 10;
      requested = pos 300 ∷ negsuc 49 ∷ [];
      observed = pos 300 ∷ negsuc 49 ∷ [];
      pre_state = 0;
      post_state = 0;
      original_receipt = 0;
      dispatched = true;
      observed_valid = true;
    }

-- every field is there, and no two are alike: the longest record
unfoldable pub full : Receipt
full =
    record {
      boot_id = 0x1112_1314_1516_1718;
      principal = 0x2122_2324_2526_2728;
      safety_flags = 0x3132_3334;
      receipt_id = 0x4142_4344_4546_4748;
      action_id = 0x5152_5354_5556_5758;
      sequence = 0x6162_6364_6566_6768;
      capability = 0x7172;
      resource = 0x81;
      lease_id = 0x9192_9394_9596_9798;
      decision = Decision.Failed;
      reason = Reason.Verification;
      epoch = 0xa1a2_a3a4_a5a6_a7a8;
      received_at = 0xb1b2_b3b4_b5b6_b7b8;
      admitted_at = 0xc1c2_c3c4_c5c6_c7c8;
      executed_at = 0xd1d2_d3d4_d5d6_d7d8;
      requested = pos 0x0a0b_0c0d ∷ negsuc 50 ∷ [];
      observed = negsuc 1000 ∷ pos 0x0e0f_1011 ∷ [];
      pre_state = 0xe1e2_e3e4;
      post_state = 0xf1f2_f3f4;
      original_receipt = 0x0102_0304_0506_0708;
      dispatched = true;
      observed_valid = true;
    }

-- a receipt, its record and its words
pub record Worked : Type 0 where
  pub receipt : Receipt
  pub bytes : List ℕ
  pub words : List ℕ

unfoldable pub worked : List Worked
worked =
    record {
      receipt = grant;
      bytes = 0x2f ∷ 0x0b ∷ 0x0f ∷ 0x00 ∷ 0x00 ∷ 0x2a ∷ 0x00 ∷ 0x00 ∷ 0x00 ∷ 0x00 ∷ 0x00 ∷ 0x00 ∷ 0x00 ∷ 0x07 ∷ 0x00 ∷ 0x00 ∷ 0x00 ∷
          0x00 ∷ 0x00 ∷ 0x00 ∷ 0x00 ∷ 0x01 ∷ 0x00 ∷ 0x00 ∷ 0x00 ∷ 0x00 ∷ 0x00 ∷ 0x00 ∷ 0x00 ∷ 0x01 ∷ 0x00 ∷ 0x00 ∷ 0x00 ∷ 0x00 ∷
          0x00 ∷ 0x00 ∷ 0x00 ∷ 0x03 ∷ 0x18 ∷ 0x00 ∷ 0x02 ∷ 0x00 ∷ 0x00 ∷ 0x00 ∷ 0x00 ∷ 0x00 ∷ 0x00 ∷ 0x00 ∷ 0x99 ∷ 0x00 ∷ [];
      words = 42 ∷ 7 ∷ 0 ∷ 1 ∷ 0 ∷ 0 ∷ 0 ∷ 0 ∷ 1 ∷ 3 ∷ 24 ∷ 2 ∷ 0 ∷ 0 ∷ 0 ∷ 0 ∷ 0 ∷ 0 ∷ 0 ∷ 0 ∷ 0 ∷ 0 ∷ 0 ∷ 0 ∷ [];
    }
    ∷ record {
      receipt = order;
      bytes = 0x5e ∷ 0x7b ∷ 0xe9 ∷ 0x31 ∷ 0x00 ∷ 0x2a ∷ 0x00 ∷ 0x00 ∷ 0x00 ∷ 0x00 ∷ 0x00 ∷ 0x00 ∷ 0x00 ∷ 0x07 ∷ 0x00 ∷ 0x00 ∷ 0x00 ∷
          0x00 ∷ 0x00 ∷ 0x00 ∷ 0x00 ∷ 0x02 ∷ 0x00 ∷ 0x00 ∷ 0x00 ∷ 0x00 ∷ 0x00 ∷ 0x00 ∷ 0x00 ∷ 0x01 ∷ 0x00 ∷ 0x00 ∷ 0x00 ∷ 0x00 ∷
          0x00 ∷ 0x00 ∷ 0x00 ∷ 0x01 ∷ 0x00 ∷ 0x00 ∷ 0x00 ∷ 0x00 ∷ 0x00 ∷ 0x00 ∷ 0x00 ∷ 0x01 ∷ 0x00 ∷ 0x01 ∷ 0x00 ∷ 0x00 ∷ 0x00 ∷
          0x00 ∷ 0x00 ∷ 0x00 ∷ 0x00 ∷ 0x02 ∷ 0x00 ∷ 0x00 ∷ 0x00 ∷ 0x00 ∷ 0x00 ∷ 0x00 ∷ 0x00 ∷ 0x0a ∷ 0x00 ∷ 0x00 ∷ 0x00 ∷ 0x00 ∷
          0x00 ∷ 0x00 ∷ 0x00 ∷ 0x0a ∷ 0x00 ∷ 0x00 ∷ 0x00 ∷ 0x00 ∷ 0x00 ∷ 0x00 ∷ 0x00 ∷ 0x2c ∷ 0x01 ∷ 0x00 ∷ 0x00 ∷ 0xce ∷ 0xff ∷
          0xff ∷ 0xff ∷ 0x2c ∷ 0x01 ∷ 0x00 ∷ 0x00 ∷ 0xce ∷ 0xff ∷ 0xff ∷ 0xff ∷ 0x30 ∷ 0x0a ∷ [];
      words = 42 ∷ 7 ∷ 0 ∷ 2 ∷ 1 ∷ 1 ∷ 1 ∷ 0 ∷ 1 ∷ 0 ∷ 0 ∷ 2 ∷ 0 ∷ 10 ∷ 10 ∷ 300 ∷ 0xffff_ffce ∷ 300 ∷ 0xffff_ffce ∷ 0 ∷ 0 ∷ 0 ∷ 1 ∷
          1 ∷ [];
    }
    ∷ record {
      receipt = full;
      bytes = 0x7e ∷ 0xff ∷ 0xff ∷ 0x3f ∷ 0x00 ∷ 0x18 ∷ 0x17 ∷ 0x16 ∷ 0x15 ∷ 0x14 ∷ 0x13 ∷ 0x12 ∷ 0x11 ∷ 0x28 ∷ 0x27 ∷ 0x26 ∷ 0x25 ∷
          0x24 ∷ 0x23 ∷ 0x22 ∷ 0x21 ∷ 0x34 ∷ 0x33 ∷ 0x32 ∷ 0x31 ∷ 0x48 ∷ 0x47 ∷ 0x46 ∷ 0x45 ∷ 0x44 ∷ 0x43 ∷ 0x42 ∷ 0x41 ∷ 0x58 ∷
          0x57 ∷ 0x56 ∷ 0x55 ∷ 0x54 ∷ 0x53 ∷ 0x52 ∷ 0x51 ∷ 0x68 ∷ 0x67 ∷ 0x66 ∷ 0x65 ∷ 0x64 ∷ 0x63 ∷ 0x62 ∷ 0x61 ∷ 0x72 ∷ 0x71 ∷
          0x81 ∷ 0x98 ∷ 0x97 ∷ 0x96 ∷ 0x95 ∷ 0x94 ∷ 0x93 ∷ 0x92 ∷ 0x91 ∷ 0x04 ∷ 0x11 ∷ 0x00 ∷ 0xa8 ∷ 0xa7 ∷ 0xa6 ∷ 0xa5 ∷ 0xa4 ∷
          0xa3 ∷ 0xa2 ∷ 0xa1 ∷ 0xb8 ∷ 0xb7 ∷ 0xb6 ∷ 0xb5 ∷ 0xb4 ∷ 0xb3 ∷ 0xb2 ∷ 0xb1 ∷ 0xc8 ∷ 0xc7 ∷ 0xc6 ∷ 0xc5 ∷ 0xc4 ∷ 0xc3 ∷
          0xc2 ∷ 0xc1 ∷ 0xd8 ∷ 0xd7 ∷ 0xd6 ∷ 0xd5 ∷ 0xd4 ∷ 0xd3 ∷ 0xd2 ∷ 0xd1 ∷ 0x0d ∷ 0x0c ∷ 0x0b ∷ 0x0a ∷ 0xcd ∷ 0xff ∷ 0xff ∷
          0xff ∷ 0x17 ∷ 0xfc ∷ 0xff ∷ 0xff ∷ 0x11 ∷ 0x10 ∷ 0x0f ∷ 0x0e ∷ 0xe4 ∷ 0xe3 ∷ 0xe2 ∷ 0xe1 ∷ 0xf4 ∷ 0xf3 ∷ 0xf2 ∷ 0xf1 ∷
          0x08 ∷ 0x07 ∷ 0x06 ∷ 0x05 ∷ 0x04 ∷ 0x03 ∷ 0x02 ∷ 0x01 ∷ 0xa5 ∷ 0x39 ∷ [];
      words = 0x1112_1314_1516_1718 ∷ 0x2122_2324_2526_2728 ∷ 0x3132_3334 ∷ 0x4142_4344_4546_4748 ∷ 0x5152_5354_5556_5758 ∷
          0x6162_6364_6566_6768 ∷ 0x7172 ∷ 0x81 ∷ 0x9192_9394_9596_9798 ∷ 0x4 ∷ 0x11 ∷ 0xa1a2_a3a4_a5a6_a7a8 ∷
          0xb1b2_b3b4_b5b6_b7b8 ∷ 0xc1c2_c3c4_c5c6_c7c8 ∷ 0xd1d2_d3d4_d5d6_d7d8 ∷ 0x0a0b_0c0d ∷ 0xffff_ffcd ∷ 0xffff_fc17 ∷
          0x0e0f_1011 ∷ 0xe1e2_e3e4 ∷ 0xf1f2_f3f4 ∷ 0x0102_0304_0506_0708 ∷ 0x1 ∷ 0x1 ∷ [];
    }
    ∷ []

-- what the definitions say: of the receipt what is written, of the bytes what is read, whatever follows, and of the receipt its words
pub record Outcome : Type 0 where
  pub written : List ℕ
  pub read : Found
  pub words : List ℕ

abbrev pub rest : List ℕ
rest = 0xff ∷ 0x00 ∷ []

abbrev pub outcome : Worked → Outcome
outcome v = record { written = record_of v.receipt; read = entry_in (v.bytes ++ rest); words = wire_words v.receipt }

abbrev pub demanded : Worked → Outcome
demanded v = record { written = v.bytes; read = Accepts v.receipt rest; words = v.words }

pub worked-so : map outcome worked ≡ map demanded worked
unfolding worked grant order full record_of framed sum body_of fields_of map_of stands numbers_of bit pair_number widths little_end unsigned decision_number entry_in judged receipt_in is_framed fields_in joined field_in receipt_of receipt_from receipt_with pair_of little_number signed wire_words wire_words_from
worked-so = refl
