use Rattle.utf8.proofs.Lawful.{by_ranges, first_unread, gives_back, one_way, reads_all}
use Rattle.utf8.proofs.Letters.{parted, small}
use Rattle.utf8.proofs.laws.utf8_laws.Goals as goal

pub returns : goal.returns
returns c = record {
  by_ranges = by_ranges;
  gives_back = gives_back;
  reads_all = reads_all;
  one_way = one_way;
  first_unread = first_unread;
  parted = parted;
  small = small;
}
