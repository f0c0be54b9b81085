use Rattle.std.proofs.Common.{◌∙◌, ◌++◌, [], ap, codes, refl, sym}
use Rattle.std.specs.Prelude.{unwrap_or}
use Rattle.std.specs.List.{list_all}
use Rattle.c_text.specs.CSpelling.{is_word_byte}
use Rattle.wf_lower_stmts.proofs.WordLaws.{body_is_name, joined_words, spelt_known, spelt_word, word_there, word_is}
use Rattle.wf_lower_stmts.proofs.spelling.body_name.Goals as goal

pub struct_called-requires-clause-known : goal.struct_called-requires-clause-known
struct_called-requires-clause-known c = spelt_known c.args.t.now c.args.m.now c.requires.spelt

pub text-requires : goal.text-requires
text-requires c = word_there c.args.t.now c.args.m.now.name (spelt_word c.args.t.now c.args.m.now c.requires.spelt)

pub put_words-requires : goal.put_words-requires
put_words-requires c =
    let name = ap (list_all is_word_byte) (sym (ap (λ o. unwrap_or o []) c.text.ensures)) ∙ word_is c.args.t.now c.args.m.now.name (spelt_word c.args.t.now c.args.m.now c.requires.spelt) in
    (body_is_name (c.struct_called.result.now ++ (codes "__" ++ c.text.result.now)) (joined_words c.struct_called.result.now (codes "__" ++ c.text.result.now) c.struct_called.ensures.word (joined_words (codes "__") c.text.result.now refl name)))
