use Rattle.std.proofs.Common.{◌∙◌, ◌++◌, [], ℕ, List, IfOk, ap, codes, subst, sym}
use Rattle.wf_ast.specs.TypedPackage.{package_of}
use Rattle.wf_exprs.specs.Grown.{HasNamed}
use Rattle.wf_exprs.specs.Names.{struct_type}
use Rattle.std.specs.Prelude.{unwrap_or}
use Rattle.std.specs.List.{list_all}
use Rattle.c_text.specs.CSpelling.{is_word_byte}
use Rattle.wf_lower_stmts.proofs.WordLaws.{entry_is, entry_is_name, spelt_known, spelt_word, word_there, word_is}
use Rattle.wf_lower_stmts.proofs.spelling.entry_name.Goals as goal

pub struct_text-requires-clause-known : goal.struct_text-requires-clause-known
struct_text-requires-clause-known c = spelt_known c.args.t.now c.args.m.now c.requires.spelt

pub text-requires : goal.text-requires
text-requires c = word_there c.args.t.now c.args.m.now.name (spelt_word c.args.t.now c.args.m.now c.requires.spelt)

pub put_words-requires : goal.put_words-requires
put_words-requires c =
    let name = ap (list_all is_word_byte) (sym (ap (λ o. unwrap_or o []) c.text.ensures)) ∙ word_is c.args.t.now c.args.m.now.name (spelt_word c.args.t.now c.args.m.now c.requires.spelt) in
    let of = ap (list_all is_word_byte) (sym c.in_ok-of.ensures.is) ∙ c.in_ok-of.ensures.word in
    rw (c.as_slice.ensures.value, entry_is c.args.t.now c.args.m.now.of.0 c.in_ok-of.of.items c.text.result.now c.in_ok-of.ensures.is)
    (entry_is_name c.args.t.now c.args.m.now.of.0 c.text.result.now of name)

pub returns-clause-made : goal.returns-clause-made
returns-clause-made c =
    let p = package_of c.args.t.now in
    let of = c.as_slice.ensures.value ∙ c.in_ok-of.ensures.is in
    let named = ap (λ o. unwrap_or o []) c.text.ensures in
    let whole = entry_is c.args.t.now c.args.m.now.of.0 c.as_slice.result.now c.text.result.now of
    ∙ ap (λ x. struct_type p c.args.m.now.of.0 ++ (codes "__" ++ x)) (sym named) in
    let P : List ℕ → Type 0 = λ z. IfOk c.put_words.result (λ n. HasNamed c.put_words.new.u n.0 z) in
    subst P whole c.put_words.ensures.made
