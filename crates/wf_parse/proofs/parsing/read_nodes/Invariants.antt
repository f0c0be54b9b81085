use Rattle.std.proofs.Common.{◌≡◌, ◌≤◌, ◌+◌, ◌-◌, ◌*◌, length, drop, map}
use Rattle.wf_parse_nodes.specs.Makers.{nodes, IsSound}
use Rattle.wf_parse.proofs.PackageReading.{Leads, bytes_from}
use Rattle.wf_parse.proofs.parsing.read_nodes.Given as goal

abbrev pub invariant-loop-bytes : goal.invariant-loop-bytes
invariant-loop-bytes l = record {
  number : l.number ≡ l.bytes-index;
  sound : IsSound l.machine.maker;
  named : l.machine.maker.package.name ≡ l.fn.name;
  leads : Leads l.bytes-index l.most l.machine.maker.package (drop l.bytes-index (map (λ file. file.items) l.files)) (map (λ file. file.items) l.files);
  nodes : nodes l.machine.maker + 64 * bytes_from (λ file. file.items) (drop l.bytes-index l.files) + 64 * (length l.files - l.bytes-index) ≤ 67109888;
  texts : length l.machine.maker.package.texts + 2 * bytes_from (λ file. file.items) (drop l.bytes-index l.files) ≤ 2097152;
}
