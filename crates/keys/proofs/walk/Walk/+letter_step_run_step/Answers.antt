use Rattle.std.proofs.Common.{rules, subst, sym, ap, ◌∙◌}
use Rattle.keys.specs.Letters.{first_in}
use Rattle.keys.specs.Reading.{RunWith}
use Rattle.table.specs.Meaning.{rules_of}
use Rattle.keys.proofs.Stepping.{ended_read, letter_read, next_taken, passes, run_met, run_read, short, stops}
use Rattle.keys.proofs.walk.Walk.+letter_step_run_step.Goals as goal

pub letter_step-returns-then-counts : goal.letter_step-returns-then-counts
letter_step-returns-then-counts t c =
    let w = c.args.self.now in
    let b = c.in-Some.behind in
    let v = c.split-more.result.0 in
    let m = c.split-more.result.1 in
    stops w (record { table = w.table; rest = w.rest; weights = v; more = m }) (next_taken w b v m c.in-Some.is c.split-more.ensures.0) c.split-more.ensures.1

pub letter_step-returns-in-Some : goal.letter_step-returns-in-Some
letter_step-returns-in-Some t c =
    let w = c.args.self.now in
    let b = c.in-Some.behind in
    let v = c.split-more.result.0 in
    let m = c.split-more.result.1 in
    passes w (record { table = w.table; rest = w.rest; weights = v; more = m }) (next_taken w b v m c.in-Some.is c.split-more.ensures.0) _ _ (sym c.counts.ensures ∙ c.if-counts.false) c.letter_step.ensures

pub letter_step-returns-in_default-split_first : goal.letter_step-returns-in_default-split_first
letter_step-returns-in_default-split_first t c =
    let w = c.args.self.now in
    ended_read w c.in_default.is (ap (λ u. first_in u w.rest.now) (sym c.utf8-2.ensures) ∙ c.in_default-split_first.ensures)

pub letter_step-run_step-requires : goal.letter_step-run_step-requires
letter_step-run_step-requires t c =
    let w = c.args.self.now in
    let s = c.in-Some-split_first.ensures in
    let v = c.in-Some-run_with.weights in
    let e = c.in-Some-run_with.ensures in
    let p = run_met w c.in-Some-split_first.letter s.0 c.in-Some-split_first.rest.now c.in-Some-run_with.behind.now v c.in_default.is (ap (λ u. first_in u w.rest.now) (sym c.utf8-2.ensures) ∙ s.1) s.2 e.0 e.1 (short v (search rules) (search rules) (search rules)) in
    (search rules, p)

pub letter_step-returns-then-counts-2 : goal.letter_step-returns-then-counts-2
letter_step-returns-then-counts-2 t c =
    let w = c.args.self.now in
    let a = c.in-Some-split_first.letter in
    let v = c.letter_with-more.result.0 in
    let m = c.letter_with-more.result.1 in
    let s = c.in-Some-split_first.ensures in
    let one = subst (RunWith (rules_of w.table.now) a c.in-Some-split_first.rest.now) c.in_default-run_with.is c.run_with.ensures in
    let r = letter_read w a s.0 c.in-Some-split_first.rest v m c.in_default.is (ap (λ u. first_in u w.rest.now) (sym c.utf8-2.ensures) ∙ s.1) s.2 one c.letter_with-more.ensures in
    stops w (record { table = w.table; rest = c.in-Some-split_first.rest; weights = v; more = m }) r c.letter_with-more.ensures.1

pub letter_step-letter_step-requires-2 : goal.letter_step-letter_step-requires-2
letter_step-letter_step-requires-2 t c =
    let w = c.args.self.now in
    let a = c.in-Some-split_first.letter in
    let v = c.letter_with-more.result.0 in
    let m = c.letter_with-more.result.1 in
    let s = c.in-Some-split_first.ensures in
    let one = subst (RunWith (rules_of w.table.now) a c.in-Some-split_first.rest.now) c.in_default-run_with.is c.run_with.ensures in
    let r = letter_read w a s.0 c.in-Some-split_first.rest v m c.in_default.is (ap (λ u. first_in u w.rest.now) (sym c.utf8-2.ensures) ∙ s.1) s.2 one c.letter_with-more.ensures in
    let l = r.2 in
    search rules

pub letter_step-returns : goal.letter_step-returns
letter_step-returns t c =
    let w = c.args.self.now in
    let a = c.in-Some-split_first.letter in
    let v = c.letter_with-more.result.0 in
    let m = c.letter_with-more.result.1 in
    let s = c.in-Some-split_first.ensures in
    let one = subst (RunWith (rules_of w.table.now) a c.in-Some-split_first.rest.now) c.in_default-run_with.is c.run_with.ensures in
    let r = letter_read w a s.0 c.in-Some-split_first.rest v m c.in_default.is (ap (λ u. first_in u w.rest.now) (sym c.utf8-2.ensures) ∙ s.1) s.2 one c.letter_with-more.ensures in
    passes w (record { table = w.table; rest = c.in-Some-split_first.rest; weights = v; more = m }) r _ _ (sym c.counts-2.ensures ∙ c.if-counts-2.false) c.letter_step-2.ensures

pub run_step-returns-then-counts : goal.run_step-returns-then-counts
run_step-returns-then-counts t c =
    let w = c.args.self.now in
    let r = run_read w c.args.behind c.requires in
    stops w (record { table = w.table; rest = c.args.behind; weights = w.weights; more = w.more }) r c.requires.1

pub run_step-letter_step-requires : goal.run_step-letter_step-requires
run_step-letter_step-requires t c =
    let w = c.args.self.now in
    let r = run_read w c.args.behind c.requires in
    let l = r.2 in
    search rules

pub run_step-returns : goal.run_step-returns
run_step-returns t c =
    let w = c.args.self.now in
    let r = run_read w c.args.behind c.requires in
    passes w (record { table = w.table; rest = c.args.behind; weights = w.weights; more = w.more }) r _ _ (sym c.counts.ensures ∙ c.if-counts.false) c.letter_step.ensures
