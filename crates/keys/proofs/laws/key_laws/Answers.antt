use Rattle.std.proofs.Common.{refl}
use Rattle.keys.specs.Pieces.{pieces_behind}
use Rattle.keys.specs.Letters.{letters_in}
use Rattle.keys.specs.Rows.{weighed, without_zeros, key, row, row_of}
use Rattle.keys.proofs.Alike.{same_keys}
use Rattle.keys.proofs.Lettering.{few_letters}
use Rattle.keys.proofs.Bounding.{key_by_letters, row_few, row_free}
use Rattle.keys.proofs.Expanding.{same_first_row}
use Rattle.keys.proofs.Reading.{one_reading, pairs_are_read, plain_read, same_reading, tables_fit}
use Rattle.keys.proofs.Widening.{tables_narrow}
use Rattle.keys.proofs.laws.key_laws.Goals as goal

pub returns-clause-laws : goal.returns-clause-laws
unfolding pieces_behind weighed without_zeros letters_in row_of row key
returns-clause-laws c = record {
  one_reading = one_reading;
  same_reading = same_reading;
  tables_fit = tables_fit;
  tables_narrow = tables_narrow;
  plain_read = plain_read;
  same_first_row = same_first_row;
  pairs_read = pairs_are_read;
  rows_zero_free = row_free;
  keys_short = λ most t n h. (λ l. row_few most t h l n, key_by_letters most t h n, few_letters t.utf8 n);
  same_keys = same_keys;
  key_of_cab = refl;
  key_of_chad = refl;
  key_of_large = refl;
  key_of_marked = refl;
}
