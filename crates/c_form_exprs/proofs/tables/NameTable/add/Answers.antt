use Rattle.c_text.specs.CNodes.{bytes_at}
use Rattle.c_form_exprs.proofs.TableLemmas.{place_taken, place_free}
use Rattle.c_form_exprs.proofs.tables.NameTable.add.Goals as goal

pub returns-in-Some-clause-fresh : goal.returns-in-Some-clause-fresh
returns-in-Some-clause-fresh g c = place_taken c.args.self.now.entries (bytes_at c.args.self.now.names c.args.name.0) c.in-Some.field-0 c.in-Some.ensures

pub returns-in_ok-join-in-None-clause-fresh : goal.returns-in_ok-join-in-None-clause-fresh
returns-in_ok-join-in-None-clause-fresh g c = place_free c.args.self.now.entries (bytes_at c.args.self.now.names c.args.name.0) c.in-None.ensures
