use Rattle.std.proofs.Common.{rules}
use Rattle.step_bench.proofs.start.start_state.Goals as goal

pub returns : goal.returns
returns c = record {
  regs = search rules;
  numbers = c.in_ok-span.field-0;
  numbers_hold = record { at_is = c.in_ok-span.ensures.at; bytes_are = c.in_ok-span.ensures.bytes };
  slot = c.in_ok-span-2.field-0;
  slot_holds = record { at_is = c.in_ok-span-2.ensures.at; bytes_are = c.in_ok-span-2.ensures.bytes };
  spans = search rules;
  regions = search rules;
  stack = search rules;
  place = search rules;
}
