use Rattle.nullahbowl.proofs.argument.number_behind.Goals as goal

pub returns : goal.returns
returns c =
    let read = rw c.as_bytes.ensures.value at c.in-Some-whole_number.ensures in
    (c.in-Some.word, c.in-Some.is, (read.0.0, read.0.1, read.1))
