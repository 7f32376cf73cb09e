use Rattle.std.proofs.Common.{rules}
use Rattle.order.specs.declared.newer.Change.TheVariants.{Utf8, Joins, Expands, Counts, Order}
use Rattle.order.proofs.Names.{an_order, levels, read_back, standings_agree, together, valley_order}
use Rattle.order.proofs.Keeping.{newer_by_scales, newer_tables}
use Rattle.order.proofs.Deciding.{three_same}
use Rattle.order.proofs.laws.order_laws.Goals as goal

pub returns-clause-laws : goal.returns-clause-laws
returns-clause-laws c = record {
  levels = levels;
  order = an_order;
  standings_agree = standings_agree;
  valley_order = valley_order;
  together = together;
  read_back = read_back;
  newer_tables = newer_tables;
  newer_by_scales = newer_by_scales;
}

pub returns-clause-same_pieces : goal.returns-clause-same_pieces
returns-clause-same_pieces c = search rules

pub returns-clause-same_changes : goal.returns-clause-same_changes
returns-clause-same_changes c Utf8 Utf8 = search rules
returns-clause-same_changes c Utf8 (Joins p2) = search rules
returns-clause-same_changes c Utf8 (Expands p2) = search rules
returns-clause-same_changes c Utf8 (Counts p2 l2) = search rules
returns-clause-same_changes c Utf8 (Order p2 q2 l2) = search rules
returns-clause-same_changes c (Joins p1) Utf8 = search rules
returns-clause-same_changes c (Joins p1) (Joins p2) = search rules
returns-clause-same_changes c (Joins p1) (Expands p2) = search rules
returns-clause-same_changes c (Joins p1) (Counts p2 l2) = search rules
returns-clause-same_changes c (Joins p1) (Order p2 q2 l2) = search rules
returns-clause-same_changes c (Expands p1) Utf8 = search rules
returns-clause-same_changes c (Expands p1) (Joins p2) = search rules
returns-clause-same_changes c (Expands p1) (Expands p2) = search rules
returns-clause-same_changes c (Expands p1) (Counts p2 l2) = search rules
returns-clause-same_changes c (Expands p1) (Order p2 q2 l2) = search rules
returns-clause-same_changes c (Counts p1 l1) Utf8 = search rules
returns-clause-same_changes c (Counts p1 l1) (Joins p2) = search rules
returns-clause-same_changes c (Counts p1 l1) (Expands p2) = search rules
returns-clause-same_changes c (Counts p1 l1) (Counts p2 l2) = search rules
returns-clause-same_changes c (Counts p1 l1) (Order p2 q2 l2) = search rules
returns-clause-same_changes c (Order p1 q1 l1) Utf8 = search rules
returns-clause-same_changes c (Order p1 q1 l1) (Joins p2) = search rules
returns-clause-same_changes c (Order p1 q1 l1) (Expands p2) = search rules
returns-clause-same_changes c (Order p1 q1 l1) (Counts p2 l2) = search rules
returns-clause-same_changes c (Order p1 q1 l1) (Order p2 q2 l2) =
    three_same _ _ _ p1 q1 l1 p2 q2 l2 (returns-clause-same_pieces c p1 p2) (returns-clause-same_pieces c q1 q2) (search rules)
