use Rattle.std.proofs.Common.{refl}
use Rattle.std.proofs.lemmas.Option.{slice_get_read}
use Rattle.c_text.specs.CNodes.{bytes_at}
use Rattle.c_form_exprs.proofs.TableLemmas.{spelled, place_within, place_declares, no_place_declares}
use Rattle.c_form_exprs.proofs.tables.NameTable.get.Goals as goal

-- What stands at the place is what the name declares.
pub returns : goal.returns
returns g c =
    let place = rw (← c.self.view_is) at c.in_ok-place.ensures in
    let within = place_within (spelled c.self.inside.unit.now.names) c.self.inside.entries.items (bytes_at c.self.inside.unit.now.names c.args.name.0) c.in_ok-place.place place in
    let is = slice_get_read c.self.inside.entries.items _ c.in_ok-place.place c.index.result.now refl within c.index.ensures in
    rw (← c.self.view_is) (place_declares (spelled c.self.inside.unit.now.names) c.self.inside.entries.items (bytes_at c.self.inside.unit.now.names c.args.name.0) c.in_ok-place.place c.index.result.now place is)

pub returns-in_err-place : goal.returns-in_err-place
returns-in_err-place g c = rw c.from_residual.ensures (no_place_declares c.args.self.now.entries (bytes_at c.args.self.now.names c.args.name.0) c.in_err-place.ensures)
