use Rattle.std.proofs.Common.{◌≡◌, ◌∙◌, ◌++◌, ℕ, List, true, ap, codes, refl, subst, IfOk}
use Rattle.std.specs.List.{list_all}
use Rattle.c_text.specs.CSpelling.{is_word_byte}
use Rattle.wf_lower_stmts.proofs.WordLaws.{joined_words, ok_map, struct_type_is}
use Rattle.wf_lower_stmts.proofs.spelling.struct_text.Goals as goal

pub returns-clause-is : goal.returns-clause-is
returns-clause-is c =
    let P : List ℕ → Type 0 = λ z. IfOk c.joined.result (λ text. text.items ≡ z) in
    subst P (struct_type_is c.args.t.now c.args.s.0 c.package.result.now c.struct_called.result.now c.package.ensures c.struct_called.ensures.is) c.joined.ensures

pub returns-clause-word : goal.returns-clause-word
returns-clause-word c =
    let first : list_all is_word_byte c.package.result.now ≡ true = ap (list_all is_word_byte) c.package.ensures ∙ c.requires.words.package_word in
    let whole = joined_words c.package.result.now (codes "__" ++ c.struct_called.result.now) first (joined_words (codes "__") c.struct_called.result.now refl c.struct_called.ensures.word) in
    ok_map (λ text. text.items ≡ codes "wuffs_" ++ (c.package.result.now ++ (codes "__" ++ c.struct_called.result.now))) (λ text. list_all is_word_byte text.items ≡ true) c.joined.result
    (λ text e. ap (list_all is_word_byte) e ∙ whole) c.joined.ensures
