use Rattle.catalogue.proofs.Inserting.{some_list}
use Rattle.catalogue.proofs.Lawful.{all_begin, just_that_part, part_there, tiled}
use Rattle.catalogue.proofs.Once.{one_list}
use Rattle.catalogue.proofs.Plain.{exactly_lists, exactly_names, first_of_names, first_of_places}
use Rattle.catalogue.proofs.Written.{together}
use Rattle.catalogue.proofs.laws.catalogue_laws.Goals as goal

pub returns-clause-laws : goal.returns-clause-laws
returns-clause-laws c = record {
  exactly_names = exactly_names;
  first_of_names = first_of_names;
  tiled = tiled;
  exactly_lists = exactly_lists;
  first_of_places = first_of_places;
  just_that_part = just_that_part;
  part_there = part_there;
  all_begin = all_begin;
  written_out_together = together;
  some_list = some_list;
  one_list = one_list;
}
