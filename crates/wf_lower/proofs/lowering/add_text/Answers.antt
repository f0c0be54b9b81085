use Rattle.std.proofs.Common.{◌∙◌, sym, [], arith}
use Rattle.c_text.specs.CSpelling.{is_string}
use Rattle.wf_exprs.proofs.Prefixes.{list_all-at}
use Rattle.wf_exprs_nodes.proofs.Numbered.{status_is_name}
use Rattle.wf_lower.proofs.Texts.{text_unused, text_used}
use Rattle.wf_lower.proofs.lowering.add_text.Goals as goal

pub put_numbered-requires : goal.put_numbered-requires
put_numbered-requires c = status_is_name c.args.n (grind arith)

pub put_text-requires-clause-string : goal.put_text-requires-clause-string
put_text-requires-clause-string c = list_all-at is_string c.args.p.now.t.now.statuses c.args.n c.status_text.result.now c.requires.ready.spelt.strings c.status_text.ensures

pub returns-then-has : goal.returns-then-has
returns-then-has c = text_used c.args.u.now _ _ c.args.read.now c.args.n _ _ c.status_text.result.now c.is_sound.ensures c.put_numbered.ensures.grows c.in_ok-name.ensures.made c.put_text.result c.status_text.ensures (λ reads those. sym c.if-has.true ∙ c.has.ensures reads those) c.put_text.ensures

pub returns-else-has : goal.returns-else-has
returns-else-has c = text_unused c.args.u.now _ c.args.u.now c.args.read.now c.args.n _ _ [] c.is_sound.ensures c.put_numbered.ensures.grows c.in_ok-name.ensures.made (λ reads those. sym c.if-has.false ∙ c.has.ensures reads those)
