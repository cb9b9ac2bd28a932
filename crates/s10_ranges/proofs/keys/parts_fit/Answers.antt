use Rattle.s10_ranges.proofs.keys.parts_fit.Goals as goal

pub returns : goal.returns
returns c = record {
  service = c.serial_sort_key-first.ensures.service;
  country = c.serial_sort_key-first.ensures.country;
  first = c.serial_sort_key-first.ensures.serial;
  last = c.serial_sort_key-last.ensures.serial;
}
