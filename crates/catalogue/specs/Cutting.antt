-- Where numbers go past a bound, as standings do along a list.
use Rattle.std.specs.Prelude.{ℕ, ◌<◌, ◌≤◌, List}
use Rattle.catalogue.specs.Finding.{standing_at}
use Rattle.catalogue.specs.Lists.{Lists}
use Rattle.order.specs.Names.{along}

-- from one place up to another: before the cut the numbers are at most the bound, and from it on they are above
pub record Cuts (f : ℕ → ℕ) (bound from to cut : ℕ) : Type 0 where
  pub rises : from ≤ cut
  pub within : cut ≤ to
  pub low : (k : ℕ) → from ≤ k → k < cut → f k ≤ bound
  pub high : (k : ℕ) → cut ≤ k → k < to → bound < f k

-- how far along the name at a place stands
abbrev pub along_at : Lists → (ask : List ℕ) → ℕ → ℕ
along_at l ask k = along (standing_at l ask k)
