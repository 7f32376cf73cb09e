use Rattle.std.proofs.Common.{decimal, get_or, rules, sym, refl, ap}
use Rattle.std.proofs.Output.{has_written_of_eq, has_written_append, writes_in_calls_nil}
use Rattle.std.proofs.lemmas.List.{nil_from_length}
use Rattle.texts.specs.Written.{numbers_text}
use Rattle.texts.proofs.Writing.{one_more}
use Rattle.texts.proofs.written.NumbersDisplay.fmt.Goals as goal

pub loop-number-init : goal.loop-number-init
unfolding numbers_text
loop-number-init g c = λ plain.
    has_written_of_eq g.W.Write.write_str_gives c.args.f.now _ _ c.write.new.self (ap (λ l. decimal (get_or l 0 0)) (sym c.in-Some.ensures.cases.0)) (c.in_ok-write.ensures.writes plain refl)

pub loop-number-preserved : goal.loop-number-preserved
loop-number-preserved g c = λ plain.
    has_written_of_eq _ _ _ _ _ (one_more _ c.in-Some.others.now c.loop-number.number-index c.loop-number-test.true)
    (has_written_append _ _ _ _ _ _ (c.loop-number.invariant plain) (search rules))

pub returns-in_default-clause-writes : goal.returns-in_default-clause-writes
unfolding numbers_text
returns-in_default-clause-writes g c = λ plain ok.
    has_written_of_eq g.W.Write.write_str_gives c.args.f.now _ _ c.args.f.now (ap numbers_text (sym (nil_from_length c.args.self.now.0.now c.in_default.ensures.cases)))
    (record { wrote = writes_in_calls_nil g.W.Write.write_str_gives c.args.f.now.writer; plain = plain })
