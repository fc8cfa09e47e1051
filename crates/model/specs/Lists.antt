-- Tests over a list.
use Rattle.std.specs.Prelude.{Bool, true, ◌&&◌, List, [], ◌∷◌}
pub use Rattle.std.specs.List.{list_all as all, list_any as any}

-- every condition of a list holds
unfoldable pub every : List Bool → Bool
every [] = true
every (t ∷ l) = t && every l
