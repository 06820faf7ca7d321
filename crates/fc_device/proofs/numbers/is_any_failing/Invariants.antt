use Rattle.std.proofs.Common.{◌≡◌, ◌≤◌, ◌+◌, ◌-◌}
use Rattle.fc_device.specs.Numbers.{any_listed, last_number}
use Rattle.fc_device.proofs.numbers.is_any_failing.Given as goal

abbrev pub invariant-loop : goal.invariant-loop
invariant-loop l = record {
  last : last_number l.failing l.fn.number l.calls ≡ last_number l.failing l.number (l.calls - l.counter);
  listed : any_listed l.failing l.fn.number l.calls ≡ any_listed l.failing l.number (l.calls - l.counter);
  later : l.fn.number ≤ l.number;
  within : l.number ≤ l.fn.number + l.counter;
}
