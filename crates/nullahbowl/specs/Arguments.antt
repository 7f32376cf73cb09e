-- What the arguments say.
use Rattle.std.specs.Prelude.{◌≡◌, ℕ, ◌<◌, ◌^◌, Bool, true, false, ⊤, cond, codes, List, [], ◌∷◌, ◌++◌, take, None, Some, Ok, Err, Option, Result, IsSome}
use Rattle.std.specs.Borrow.{Bor}
use Rattle.std.specs.Str.{bytes_eq}
use Rattle.std.specs.Str.Parse.{IsNumeral, digits_value}
use Rattle.anyhow.specs.declared.error.Error.{Error}
use Rattle.nullahbowl.specs.declared.argument.Argument.{Argument}
use Rattle.nullahbowl.specs.declared.argument.Argument.TheVariants.{Count, File, First, Help, Newer, Progress, Table, Unknown, Version}
use Rattle.nullahbowl.specs.declared.argument.Options.{Options}

-- an option by its name; else what begins with two hyphens is none, and all else is the name of a file
abbrev pub argument_of : List ℕ → Argument
argument_of w =
    cond (bytes_eq w (codes "--help")) Help
    (cond (bytes_eq w (codes "--version")) Version
    (cond (bytes_eq w (codes "--progress")) Progress
    (cond (bytes_eq w (codes "--table")) Table
    (cond (bytes_eq w (codes "--count")) Count
    (cond (bytes_eq w (codes "--first")) First
    (cond (bytes_eq w (codes "--newer")) Newer
    (cond (bytes_eq (take 2 w) (codes "--")) Unknown File)))))))

-- two files, of which only one may be standard input
abbrev pub MayCompare : (older newer : List ℕ) → Type 0
MayCompare a b = (argument_of a ≡ File) × (argument_of b ≡ File) × ((a ≡ codes "-") × (b ≡ codes "-") → ⊥)

-- the words are two such files, which are told in their order, and nothing else; or they are not
abbrev pub TwoFiles : List (List ℕ) → Result (Bor (List ℕ) × Bor (List ℕ)) Error → Type 0
TwoFiles ws (Ok p) = (ws ≡ p.0.now ∷ (p.1.now ∷ [])) × MayCompare p.0.now p.1.now
TwoFiles ws (Err e) = (a b : List ℕ) → ws ≡ a ∷ (b ∷ []) → MayCompare a b → ⊥

-- where `--newer` is the first word, what it names: two files; else nothing
abbrev pub NewerAsked : List (List ℕ) → Result (Option (Bor (List ℕ) × Bor (List ℕ))) Error → Type 0
NewerAsked [] (Ok None) = ⊤
NewerAsked [] (Ok (Some p)) = ⊥
NewerAsked [] (Err e) = ⊥
NewerAsked (w ∷ ws) (Ok None) = argument_of w ≡ Newer → ⊥
NewerAsked (w ∷ ws) (Ok (Some p)) = (argument_of w ≡ Newer) × TwoFiles ws (Ok p)
NewerAsked (w ∷ ws) (Err e) = (argument_of w ≡ Newer) × TwoFiles ws (Err e)

-- no option is given
abbrev pub no_options : Options
no_options = record { count = false; first = None; table = false; progress = false }

-- a number that a `usize` holds, in digits
abbrev pub IsCount : (word : List ℕ) → (n : ℕ) → Type 0
IsCount w n = IsNumeral 10 w × (digits_value 10 w < 2 ^ 64) × (n ≡ digits_value 10 w)

-- With these options and files so far, words say those: files are named in their order, an option stands for itself, and
-- behind `--first` its number has to come next. What asks for help or for the version says no more here.
unfoldable pub Say : (options : Options) → (files words : List (List ℕ)) → (behind_first : Bool) → Options → List (List ℕ) → Type 0
Say o fs [] true p gs = ⊥
Say o fs [] false p gs = (p ≡ o) × (gs ≡ fs)
Say o fs (w ∷ ws) true p gs = (n : ℕ) × IsCount w n × Say (record o { first = Some n }) fs ws false p gs
Say o fs (w ∷ ws) false p gs =
    elim (argument_of w) [
      | File ↦ Say o (fs ++ w ∷ []) ws false p gs
      | Count ↦ Say (record o { count = true }) fs ws false p gs
      | Table ↦ Say (record o { table = true }) fs ws false p gs
      | Progress ↦ Say (record o { progress = true }) fs ws false p gs
      | First ↦ Say o fs ws true p gs
      | Newer ↦ ⊥
      | Unknown ↦ ⊥
      | Help ↦ Say o fs ws false p gs
      | Version ↦ Say o fs ws false p gs
    ]

-- names are not both counted and cut off
abbrev pub GoTogether : Options → Type 0
GoTogether o = IsSome o.first → o.count ≡ true → ⊥
