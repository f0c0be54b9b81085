use Rattle.std.proofs.Common.{refl, slice_get}
use Rattle.wf_names_resolve.proofs.WordLemmas.{grows_text, word_found}
use Rattle.wf_names_resolve.proofs.words.named_word.Goals as goal

pub returns-clause-grows : goal.returns-clause-grows
returns-clause-grows c = grows_text c.args.nodes.now c.intern.new.self c.text_bytes.result.now c.in_ok-text.ensures.ok c.in_ok-text.ensures.joins c.in_ok-text.ensures.stmts c.in_ok-text.ensures.«package»

pub returns-clause-made : goal.returns-clause-made
returns-clause-made c =
    word_found c.intern.new.self.texts (slice_get c.args.parsed.now.texts c.args.name.text.0) c.args.name (record { text = c.in_ok-text.text; at = c.args.name.at }) c.text_bytes.result.now c.in_ok-text.ensures.found c.text_bytes.ensures refl
