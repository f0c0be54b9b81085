use Rattle.c_form.proofs.SignatureLemmas.{spelt_then, spelt_else}
use Rattle.c_form.proofs.signatures.is_spelt.Goals as goal

pub returns-then-eq : goal.returns-then-eq
returns-then-eq c = spelt_then c.args.front.now c.args.name.now c.args.found.now c.split_at.result.0.now c.split_at.result.1.now c.eq-then-eq.result c.if-found-front.false c.split_at.ensures.front c.split_at.ensures.back c.if-eq.ensures c.eq-then-eq.ensures

pub returns-else-eq : goal.returns-else-eq
returns-else-eq c = spelt_else c.args.front.now c.args.name.now c.args.found.now c.split_at.result.0.now c.eq.result c.if-found-front.false c.split_at.ensures.front c.eq.ensures c.if-eq.false
