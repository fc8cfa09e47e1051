-- Bytes of state, by the layout that is compiled (tools/speed/board holds them against a board's). Assumes nothing.
use mathlib.Core.Path.{◌≡◌, refl}
use prog.Memory.{size}
use Rattle.runtime.proofs.Runtime.TheLaws as Runtime

-- with the start and the receipts
pub runtime-bytes : size Runtime.mir ≡ 12176
runtime-bytes = refl
