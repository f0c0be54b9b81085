use Rattle.hex.specs.Hex.{encode_lower}
use Rattle.pens.proofs.Progress.{Progress}
use Rattle.wf_script_drive.proofs.printing.digits_of.Given as goal

abbrev pub invariant-loop-byte : goal.invariant-loop-byte
invariant-loop-byte g l = record {
  ready : g.P.Pen.ready l.pen;
  so_far : Progress g.P.Pen.writes encode_lower l.bytes l.initial.pen l.pen l.byte-index;
}
