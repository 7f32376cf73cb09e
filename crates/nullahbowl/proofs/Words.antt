-- One word more of what the arguments say.
use Rattle.std.proofs.Common.{◌≡◌, ℕ, ◌<◌, Bool, true, false, IsTrue, ◌↔◌, MatchBool, Some, List, [], ◌∷◌, ◌++◌, length, subst, refl, ⊎_elim, rules, arith}
use Rattle.std.proofs.lemmas.Option.{slice_get_cases}
use Rattle.std.specs.List.{AllWithin, Any, HoldsAt}
use Rattle.nullahbowl.specs.Arguments.{IsCount, Say, argument_of}
use Rattle.nullahbowl.specs.declared.argument.Argument.TheVariants.{Count, File, First, Help, Progress, Table, Version}
use Rattle.nullahbowl.specs.declared.argument.Options.{Options}

-- what `any` answers is whether P holds of one
pub any_tells : {X : Type 0} (P : X → Type 0) (r : Bool) (xs : List X)
    → MatchBool r ((k : ℕ) × (k < length xs) × HoldsAt P xs k) (AllWithin (λ x. P x → ⊥) xs 0 (length xs)) → IsTrue r ↔ Any P xs
any_tells P true xs h =
    (λ e. ⊎_elim (λ w. (h.0, w.0, h.1, w.3, subst P w.3 (h.2 w.0))) (λ w. absurd (omega (arith, h.1, w.0))) (slice_get_cases xs h.0).1, λ w. search rules)
any_tells P false xs h =
    (λ e. absurd (search rules), λ w. absurd (h w.0 w.1 (omega arith) w.2 (rw w.3 w.4)))

pub say_none : (o : Options) (fs words : List (List ℕ)) → words ≡ [] → Say o fs words false o fs
unfolding Say
say_none o fs words e = rw e (refl, refl)

module _ (o : Options) (fs words : List (List ℕ)) (w : List ℕ) (ws : List (List ℕ)) (p : Options) (gs : List (List ℕ)) (next : words ≡ w ∷ ws) where
  pub say_file : (hs : List (List ℕ)) → hs ≡ fs ++ w ∷ [] → argument_of w ≡ File → Say o hs ws false p gs → Say o fs words false p gs
  unfolding Say
  say_file hs e a h = rw (next, a, Say) (rw e at h)

  pub say_count : argument_of w ≡ Count → Say (record o { count = true }) fs ws false p gs → Say o fs words false p gs
  unfolding Say
  say_count a h = rw (next, a, Say) h

  pub say_table : argument_of w ≡ Table → Say (record o { table = true }) fs ws false p gs → Say o fs words false p gs
  unfolding Say
  say_table a h = rw (next, a, Say) h

  pub say_progress : argument_of w ≡ Progress → Say (record o { progress = true }) fs ws false p gs → Say o fs words false p gs
  unfolding Say
  say_progress a h = rw (next, a, Say) h

  pub say_help : argument_of w ≡ Help → Say o fs ws false p gs → Say o fs words false p gs
  unfolding Say
  say_help a h = rw (next, a, Say) h

  pub say_version : argument_of w ≡ Version → Say o fs ws false p gs → Say o fs words false p gs
  unfolding Say
  say_version a h = rw (next, a, Say) h

  pub say_first : (n : List ℕ) (others : List (List ℕ)) (k : ℕ) → argument_of w ≡ First → ws ≡ n ∷ others → IsCount n k
      → Say (record o { first = Some k }) fs others false p gs → Say o fs words false p gs
  unfolding Say
  say_first n others k a e is h = rw (next, a, Say) (rw e (k, is, h))
