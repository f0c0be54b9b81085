use Rattle.wf_lower.proofs.Texts.{text_fits, text_put}
use Rattle.wf_lower.proofs.lowering.put_text.Goals as goal

pub put_item-requires : goal.put_item-requires
put_item-requires c = text_fits c.args.u.now _ c.args.bytes.now c.args.name c.in_ok-text.text c.requires.name c.in_ok-text.ensures.ok.1 c.in_ok-text.ensures.ok.0

pub returns : goal.returns
returns c = text_put c.args.u.now _ _ c.args.bytes.now c.args.name c.in_ok-text.text c.put_item.result c.is_sound.ensures c.in_ok-text.ensures.ok.1 c.in_ok-text.ensures.ok.0 c.put_item.ensures
