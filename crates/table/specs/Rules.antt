-- What a table says, whatever numbers it lies in.
use Rattle.std.specs.Prelude.{◌≡◌, ℕ, ◌+◌, ◌*◌, Bool, true, false, cond, ◌||◌, List, [], ◌∷◌, length, is_some, Some, None, Option, nat_lt}
use Rattle.std.specs.Option.{unwrap_or}
use Rattle.pieces.specs.Ranks.{at_rank}
use Rattle.pieces.specs.declared.piece.Expansion.{Expansion}
use Rattle.pieces.specs.declared.piece.Letter.{Letter}
use Rattle.pieces.specs.declared.piece.Triples.{Triples}
use Rattle.pieces.specs.declared.piece.Triples.TheVariants.{Excess, One, Several}
use Rattle.pieces.specs.declared.piece.Long.{Long}
use Rattle.pieces.specs.declared.piece.Weights.{Weights}
use Rattle.pieces.specs.declared.piece.Pair.{Pair}
use Rattle.table.specs.Numbers.{place_in}
use Rattle.pieces.specs.Runs.{counts, expanded, expanded_among, letter_rank, long_among, nothing, same_run, weights_at}

-- Which runs of letters are one together (contractions), and what a piece weighs: a letter alone, or such a run. What is
-- neither weighs nothing. A letter that weighs as two or three (expansions) weighs nothing itself, and what it expands to is said
-- beside. And how bytes are letters: as UTF-8 has them, or each byte is one.
pub record Rules : Type 0 where
  pub joins : List ℕ → Bool
  pub weighs : List ℕ → Weights
  pub expands : List ℕ → List Weights
  pub utf8 : Bool

-- all that a piece weighs, one triple of weights behind the other
abbrev pub triples : Rules → List ℕ → List Weights
triples t p = t.weighs p ∷ t.expands p

-- all that a letter weighs, as it is entered
abbrev pub as_entered : (itself : Weights) → (expands : List Weights) → Triples
as_entered w [] = One w
as_entered w (u ∷ []) = One w
as_entered w (u ∷ (v ∷ [])) = Several (record { first = u; second = v; third = None })
as_entered w (u ∷ (v ∷ (x ∷ ws))) = Several (record { first = u; second = v; third = Some x })

abbrev pub letter_triples : Rules → ℕ → Triples
letter_triples t a = as_entered (t.weighs (a ∷ [])) (t.expands (a ∷ []))

-- a letter weighs something, or expands
abbrev pub is_weighed : Rules → ℕ → Bool
is_weighed t a = counts (t.weighs (a ∷ [])) || nat_lt 0 (length (t.expands (a ∷ [])))

-- a table with the weights of one letter set
abbrev pub with_letter : Rules → ℕ → Weights → Rules
with_letter t a w =
    record { joins = t.joins; weighs = λ run. cond (same_run (a ∷ []) run) w (t.weighs run); expands = t.expands; utf8 = t.utf8 }

-- a table with what one letter expands to
abbrev pub with_expansion : Rules → ℕ → List Weights → Rules
with_expansion t a ws =
    record { joins = t.joins; weighs = t.weighs; expands = λ run. cond (same_run (a ∷ []) run) ws (t.expands run); utf8 = t.utf8 }

-- a table with what one letter weighs that weighed nothing
abbrev pub with_triples : Rules → ℕ → Triples → Rules
with_triples t a (One w) = with_letter t a w
with_triples t a (Several e) = with_expansion t a (expanded e)
with_triples t a Excess = t

-- a table with one run more
abbrev pub with_run : Rules → List ℕ → Weights → Rules
with_run t letters w =
    record {
      joins = λ run. same_run letters run || t.joins run;
      weighs = λ run. cond (same_run letters run) w (t.weighs run);
      expands = t.expands;
      utf8 = t.utf8;
    }

-- a table with one pair more
abbrev pub with_pair : Rules → Pair → Rules
with_pair t p = with_run t (p.first ∷ (p.second ∷ [])) p.weights

-- longer runs are one beside those that are
unfoldable pub longs_join : List Long → (joins : List ℕ → Bool) → List ℕ → Bool
longs_join es joins run = is_some (long_among es run) || joins run

-- and weigh what they say
unfoldable pub longs_weigh : List Long → (weighs : List ℕ → Weights) → List ℕ → Weights
longs_weigh es weighs run = unwrap_or (long_among es run) (weighs run)

-- a table with longer runs beside its letters and pairs
abbrev pub with_longs : Rules → List Long → Rules
with_longs t es = record { joins = longs_join es t.joins; weighs = longs_weigh es t.weighs; expands = t.expands; utf8 = t.utf8 }

-- a letter alone expands to what its entry says
unfoldable pub expands_in : List Expansion → List ℕ → List Weights
expands_in es [] = []
expands_in es (a ∷ []) = expanded_among es a
expands_in es (a ∷ (b ∷ run)) = []

-- a table with these letters that weigh as two or three
abbrev pub with_expansions : Rules → List Expansion → Rules
with_expansions t es = record { joins = t.joins; weighs = t.weighs; expands = expands_in es; utf8 = t.utf8 }

-- the same table, of names in UTF-8
abbrev pub in_utf8 : Rules → Rules
in_utf8 t = record { joins = t.joins; weighs = t.weighs; expands = t.expands; utf8 = true }

-- what a run weighs where it is one together
abbrev pub contraction : Rules → List ℕ → Option Weights
contraction t run = cond (t.joins run) (Some (t.weighs run)) None

-- no run that is one together begins with the letter
abbrev pub BeginsNone : Rules → ℕ → Type 0
BeginsNone t a = (run : List ℕ) → t.joins (a ∷ run) ≡ false

-- the weights of the pair at a place, if there is one
abbrev pub weights_of : List ℕ → Option ℕ → Weights
weights_of ps None = nothing
weights_of ps (Some k) = weights_at ps (5 * k + 2)

-- runs of two, of which the first n pairs are one together
unfoldable pub joins_in : List ℕ → (n : ℕ) → List ℕ → Bool
joins_in ps n [] = false
joins_in ps n (a ∷ []) = false
joins_in ps n (a ∷ (b ∷ [])) = is_some (place_in ps n a b)
joins_in ps n (a ∷ (b ∷ (c ∷ run))) = false

-- the weights of a letter among entries; nothing where it has none
abbrev pub weights_if : Option Letter → Weights
weights_if None = nothing
weights_if (Some e) = e.weights

abbrev pub weights_among : List Letter → ℕ → Weights
weights_among es a = weights_if (at_rank letter_rank es a)

-- a letter below 256 weighs what stands at its place, another what its entry says
abbrev pub letter_weighs : (letters : List ℕ) → (others : List Letter) → ℕ → Weights
letter_weighs ls os a = cond (nat_lt a 256) (weights_at ls (3 * a)) (weights_among os a)

-- what a letter weighs, and two that are one: what stands behind their letters
unfoldable pub weighs_in : (letters : List ℕ) → (others : List Letter) → (pairs : List ℕ) → (n : ℕ) → List ℕ → Weights
weighs_in ls os ps n [] = nothing
weighs_in ls os ps n (a ∷ []) = letter_weighs ls os a
weighs_in ls os ps n (a ∷ (b ∷ [])) = weights_of ps (place_in ps n a b)
weighs_in ls os ps n (a ∷ (b ∷ (c ∷ run))) = nothing

-- what the numbers of a table say: three weights for each letter below 256, entries of other letters, and pairs, of which the
-- first n count
abbrev pub rules_by : (utf8 : Bool) → (letters : List ℕ) → (others : List Letter) → (pairs : List ℕ) → (n : ℕ) → Rules
rules_by u ls os ps n = record { joins = joins_in ps n; weighs = weighs_in ls os ps n; expands = λ run. []; utf8 = u }

-- what the numbers of a table of bytes say, which has no letters but those
abbrev pub rules_in : (letters pairs : List ℕ) → (n : ℕ) → Rules
rules_in ls ps n = rules_by false ls [] ps n

-- a table in which no letter weighs anything and no letters are one
abbrev pub no_rules : (utf8 : Bool) → Rules
no_rules u = record { joins = λ run. false; weighs = λ run. nothing; expands = λ run. []; utf8 = u }
