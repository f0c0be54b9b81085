use Rattle.std.proofs.Common.{◌≡◌, ◌∙◌, ◌++◌, ℕ, List, true, ap, codes, refl, subst, IfOk}
use Rattle.std.specs.List.{list_all}
use Rattle.c_text.specs.CSpelling.{is_word_byte}
use Rattle.wf_exprs.specs.Grown.{HasNamed}
use Rattle.wf_lower_stmts.proofs.WordLaws.{joined_words, struct_type_is, wuffs_is_name}
use Rattle.wf_lower_stmts.proofs.spelling.struct_type.Goals as goal

pub put_words-requires : goal.put_words-requires
put_words-requires c =
    let first : list_all is_word_byte c.package.result.now ≡ true = ap (list_all is_word_byte) c.package.ensures ∙ c.requires.words.package_word in
    wuffs_is_name (c.package.result.now ++ (codes "__" ++ c.struct_called.result.now)) (joined_words c.package.result.now (codes "__" ++ c.struct_called.result.now) first (joined_words (codes "__") c.struct_called.result.now refl c.struct_called.ensures.word))

pub returns-clause-made : goal.returns-clause-made
returns-clause-made c =
    let P : List ℕ → Type 0 = λ z. IfOk c.put_words.result (λ n. HasNamed c.put_words.new.u n.0 z) in
    subst P (struct_type_is c.args.t.now c.args.s.0 c.package.result.now c.struct_called.result.now c.package.ensures c.struct_called.ensures.is) c.put_words.ensures.made
