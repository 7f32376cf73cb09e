use Rattle.table.proofs.Lawful.{exactly_tables, expansions_listed, first_foreign, first_twice, held_are_tables, just_pairs, letters_listed, letters_weigh, runs_fit, runs_listed, same_refusal, valley_says}
use Rattle.table.proofs.Recorded.{filled_by_records, same_run_refusal}
use Rattle.table.proofs.laws.table_laws.Goals as goal

pub returns-clause-laws : goal.returns-clause-laws
returns-clause-laws c = record {
  exactly_tables = exactly_tables;
  first_foreign = first_foreign;
  first_twice = first_twice;
  just_pairs = just_pairs;
  letters_weigh = letters_weigh;
  held_are_tables = held_are_tables;
  letters_listed = letters_listed;
  expansions_listed = expansions_listed;
  runs_listed = runs_listed;
  runs_fit = runs_fit;
  valley_says = valley_says;
  same_refusal = same_refusal;
  same_run_refusal = same_run_refusal;
  filled_by_records = filled_by_records;
}
