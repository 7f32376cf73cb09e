-- What a table that the program holds says, and what checking lent numbers answers.
use Rattle.std.specs.Prelude.{◌≡◌, ℕ, ◌*◌, ◌/◌, ◌%◌, Bool, ◌||◌, ◌==◌, List, [], ◌++◌, map, length, Some, None, Ok, Err, Result}
use Rattle.table.specs.declared.fault.Refusal.{Refusal}
use Rattle.table.specs.declared.fault.Refusal.TheVariants.{Twice}
use Rattle.std.specs.List.{list_any, range_with_len}
use Rattle.table.specs.declared.pairs.Pairs.{Pairs}
use Rattle.pieces.specs.declared.piece.Expansion.{Expansion}
use Rattle.pieces.specs.declared.piece.Letter.{Letter}
use Rattle.pieces.specs.declared.piece.Long.{Long}
use Rattle.pieces.specs.declared.piece.Pair.{Pair}
use Rattle.table.specs.declared.view.Table.{Table}
use Rattle.table.specs.Numbers.{pairs_in}
use Rattle.pieces.specs.Runs.{weights_at}
use Rattle.table.specs.Refusals.{at_place, first_place, refusal_of, repeated}
use Rattle.table.specs.Rules.{Rules, rules_by, rules_in, with_expansions, with_longs}

-- Its rules, its pairs and its longer runs: a clause for each where all are said, since most proofs cite one of them.
abbrev pub rules_of : Table → Rules
rules_of t =
    with_expansions (with_longs (rules_by t.utf8 t.letters.now t.others.now t.pairs.numbers.now t.pairs.count) t.longs.now) t.expansions.now

-- its letters: those below 256, each with what it weighs itself, and behind them those that have an entry
abbrev pub letters_in : (letters : List ℕ) → (others : List Letter) → List Letter
letters_in ls os = map (λ a. record { letter = a; weights = weights_at ls (3 * a) }) (range_with_len 0 256) ++ os

abbrev pub letters_of : Table → List Letter
letters_of t = letters_in t.letters.now t.others.now

-- its pairs, in the order of their places
abbrev pub pairs_of : Table → List Pair
pairs_of t = pairs_in t.pairs.numbers.now t.pairs.count

-- its runs of three and four letters, in the order in which they are looked up
abbrev pub longs_of : Table → List Long
longs_of t = t.longs.now

-- its letters that weigh as two or three, in the order of their numbers
abbrev pub expansions_of : Table → List Expansion
expansions_of t = t.expansions.now

-- one of these pairs or longer runs begins with a letter that has the same remainder by 256
abbrev pub some_begins : (pairs : List Pair) → (longs : List Long) → (letter : ℕ) → Bool
some_begins ps es a = list_any (λ p. p.first % 256 == a % 256) ps || list_any (λ e. e.run.first % 256 == a % 256) es

-- the first n of these pairs are chained
abbrev pub AreChained : List ℕ → (n : ℕ) → Pairs → Type 0
AreChained ps n p = (p.numbers.now ≡ ps) × (p.count ≡ n)

-- all are, or the first that equals an earlier one is told
abbrev pub AllChained : List ℕ → Result Unit Refusal → Pairs → Type 0
AllChained ps (Ok x) p = AreChained ps (length ps / 5) p
AllChained ps (Err why) p = at_place Twice (first_place (repeated ps) (length ps / 5)) None ≡ Some why

-- numbers are a table of bytes, which says what they say and has no longer runs and no expansions; or they are turned away
abbrev pub Checked : (letters pairs : List ℕ) → (n : ℕ) → Result Table Refusal → Type 0
Checked ls ps n (Ok t) = (refusal_of ls ps n ≡ None) × (rules_of t ≡ rules_in ls ps n) × (pairs_of t ≡ pairs_in ps n) × (longs_of t ≡ []) × (expansions_of t ≡ [])
Checked ls ps n (Err why) = refusal_of ls ps n ≡ Some why
