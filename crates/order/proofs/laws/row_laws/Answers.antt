use Rattle.std.proofs.lemmas.Cmp.{nat_list_cmp_total}
use Rattle.order.proofs.Rows.{alike_are_same, before_says, begins_says, between, joined_by_levels, joined_reads_back, standings_rise}
use Rattle.order.proofs.laws.row_laws.Goals as goal

pub returns : goal.returns
returns c = record {
  joined_by_levels = joined_by_levels;
  joined_reads_back = joined_reads_back;
  total = nat_list_cmp_total;
  alike_are_same = alike_are_same;
  before_says = before_says;
  begins_says = begins_says;
  between = between;
  standings_rise = standings_rise;
}
