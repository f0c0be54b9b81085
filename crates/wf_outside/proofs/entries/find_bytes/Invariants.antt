use Rattle.std.proofs.Common.{◌≡◌, map, string_bytes, drop}
use Rattle.wf_outside.specs.InMemory.{bytes_under}
use Rattle.wf_outside.proofs.entries.find_bytes.Given as goal

abbrev pub invariant-loop-entry : goal.invariant-loop-entry
invariant-loop-entry l =
    bytes_under (map (λ entry. (string_bytes entry.0, entry.1.items)) (drop l.entry-index l.held)) l.name
    ≡ bytes_under (map (λ entry. (string_bytes entry.0, entry.1.items)) l.held) l.name
