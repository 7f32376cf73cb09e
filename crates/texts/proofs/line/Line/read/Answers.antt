use Rattle.std.proofs.Common.{◌≡◌, None, sym, ap, ◌∙◌, rules, tests, arith}
use Rattle.std.specs.Option.{option_map}
use Rattle.texts.specs.Lines.{said, saying}
use Rattle.texts.proofs.Saying.{some_line}
use Rattle.texts.proofs.line.Line.read.Goals as goal
use Rattle.utf8.specs.Reading.{unread}

pub returns-in-Some : goal.returns-in-Some
returns-in-Some c =
    let l = c.args.line.now in
    let u : unread l ≡ None = search (rules, tests) in
    sym (some_line l u (search (rules, arith)) ∙ ap said (sym c.read.ensures ∙ ap (option_map saying) c.in-Some.is))

pub returns-in-None : goal.returns-in-None
returns-in-None c =
    let l = c.args.line.now in
    let u : unread l ≡ None = search (rules, tests) in
    sym (some_line l u (search (rules, arith)) ∙ ap said (sym c.read.ensures ∙ ap (option_map saying) c.in-None.is))
