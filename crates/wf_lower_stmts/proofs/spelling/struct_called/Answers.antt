use Rattle.std.proofs.Common.{sym, ◌∙◌, ap, []}
use Rattle.std.specs.Prelude.{unwrap_or}
use Rattle.std.specs.List.{list_all}
use Rattle.c_text.specs.CSpelling.{is_word_byte}
use Rattle.wf_lower_stmts.proofs.WordLaws.{struct_spelt, struct_called_is, word_there, word_is}
use Rattle.wf_lower_stmts.proofs.spelling.struct_called.Goals as goal

pub text-requires : goal.text-requires
text-requires c = word_there c.args.t.now c.structure.result.now.name (struct_spelt c.args.t.now c.requires.words c.args.s.0 c.structure.result.now c.structure.ensures)

pub returns-clause-is : goal.returns-clause-is
returns-clause-is c = sym (struct_called_is c.args.t.now c.args.s.0 c.structure.result.now c.structure.ensures ∙ ap (λ o. unwrap_or o []) c.text.ensures)

pub returns-clause-word : goal.returns-clause-word
returns-clause-word c = ap (list_all is_word_byte) (sym (ap (λ o. unwrap_or o []) c.text.ensures)) ∙ word_is c.args.t.now c.structure.result.now.name (struct_spelt c.args.t.now c.requires.words c.args.s.0 c.structure.result.now c.structure.ensures)
