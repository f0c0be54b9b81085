use Rattle.std.proofs.lemmas.Result.{on_ok_weaker}
use Rattle.std.proofs.Common.{◌≡◌, ◌∙◌}
use Rattle.c_read_nodes.specs.Makers.{made}
use Rattle.c_read_nodes.specs.Making.{Making}
use Rattle.c_read_nodes.specs.Seen.{made_with}
use Rattle.c_read_nodes.specs.declared.maker.Maker.{Maker}
use Rattle.c_read_nodes.proofs.Performing.{misfit_performed, unmet_performed, fit_performed, fit_there}
use Rattle.c_read_nodes.proofs.maker.Maker.perform_plain.Goals as goal

pub returns-then-not-fits-clause-made : goal.returns-then-not-fits-clause-made
returns-then-not-fits-clause-made c = misfit_performed c.args.self.now.unit c.args.action c.args.self.now.values c.clear.new.self c.takes.result.now c.fits.result c.requires.plain c.takes.ensures c.fits.ensures c.if-not-fits.true c.clear.ensures

pub returns-then-not-meets-clause-made : goal.returns-then-not-meets-clause-made
returns-then-not-meets-clause-made c = unmet_performed c.args.self.now.unit c.args.action c.args.self.now.values c.clear-then-not-meets.new.self c.takes.result.now c.fits.result c.meets.result c.requires.plain c.takes.ensures c.fits.ensures c.if-not-fits.false c.meets.ensures c.if-not-meets.true c.clear-then-not-meets.ensures

pub put-requires-clause-fit : goal.put-requires-clause-fit
put-requires-clause-fit c =
    let made_then : Making = record { product = c.in_ok-product.product; vals = c.make.new.values } in
    (fit_there c.args.self.now.unit c.args.action c.args.self.now.values c.takes.result.now c.fits.result c.meets.result made_then c.requires.plain c.takes.ensures c.fits.ensures c.if-not-fits.false c.meets.ensures c.if-not-meets.false c.in_ok-product.ensures c.requires.fit).1

pub put-requires-clause-parts : goal.put-requires-clause-parts
put-requires-clause-parts c =
    let made_then : Making = record { product = c.in_ok-product.product; vals = c.make.new.values } in
    (fit_there c.args.self.now.unit c.args.action c.args.self.now.values c.takes.result.now c.fits.result c.meets.result made_then c.requires.plain c.takes.ensures c.fits.ensures c.if-not-fits.false c.meets.ensures c.if-not-meets.false c.in_ok-product.ensures c.requires.fit).0

pub returns-clause-made : goal.returns-clause-made
returns-clause-made c =
    let made_then : Making = record { product = c.in_ok-product.product; vals = c.make.new.values } in
    let between : Maker = record { alloc = c.args.self.now.alloc; unit = c.args.self.now.unit; values = c.make.new.values } in
    let law = fit_performed c.args.self.now.unit c.args.action c.args.self.now.values c.takes.result.now c.fits.result c.meets.result made_then c.requires.plain c.takes.ensures c.fits.ensures c.if-not-fits.false c.meets.ensures c.if-not-meets.false c.in_ok-product.ensures in
    let made_now = λ (e : made c.put.new.self ≡ made_with c.args.self.now.unit c.in_ok-product.product (made between)). e ∙ law in
    on_ok_weaker c.put.result made_now c.put.ensures.made
