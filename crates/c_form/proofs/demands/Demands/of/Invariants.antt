use Rattle.std.proofs.Common.{◌≡◌, drop}
use Rattle.c_form.specs.Demands.{ask_structs, none_asked}
use Rattle.c_form.proofs.demands.Demands.of.Given as goal

abbrev pub invariant-loop-it : goal.invariant-loop-it
invariant-loop-it l = ask_structs l.surface l.demands (drop l.it-index l.surface.structs) ≡ ask_structs l.surface (none_asked l.unit) l.surface.structs
