-- What holds of all names among the tokens of a declaration, and of all texts among them, for whatever may hold of the number of a text.
use Rattle.std.proofs.Common.{ℕ, List, [], subst}
use Rattle.std.specs.Bool.{⊤}
use Rattle.std.specs.List.{AllByRecursion}
use Rattle.wf_parse_grammar.specs.declared.tokens.Kind.{Kind}
use Rattle.wf_parse_grammar.specs.declared.tokens.Kind.TheVariants as kinds
use Rattle.wf_parse_grammar.specs.declared.tokens.Token.{Token}
use Rattle.wf_parse_grammar.specs.Grammar.{MarkPart, TypeForm, DeclForm, mark_part_before, type_before, decl_before}
use Rattle.wf_parse_grammar.proofs.Catenation.{more-mark, more-type}
use Rattle.wf_parse_grammar.proofs.CatenationMore.{more-decl}
use Rattle.wf_typed_laws.proofs.ListLemmas.{all-front, all-behind}

abbrev pub KindIsGood : (names texts : ℕ → Type 0) → Kind → Type 0
KindIsGood Good Fine (kinds.Name n) = Good n.0
KindIsGood Good Fine (kinds.Text n) = Fine n.0
KindIsGood Good Fine _ = ⊤

abbrev pub TokenIsGood : (names texts : ℕ → Type 0) → Token → Type 0
TokenIsGood Good Fine t = KindIsGood Good Fine t.kind

abbrev pub AreGood : (names texts : ℕ → Type 0) → List Token → Type 0
AreGood Good Fine tokens = AllByRecursion (TokenIsGood Good Fine) tokens

module _ (Good Fine : ℕ → Type 0) where
  -- The tokens that follow a part.
  pub mark-passed : (m : MarkPart) (rest : List Token) → AreGood Good Fine (mark_part_before m rest) → AreGood Good Fine rest
  mark-passed m rest a = all-behind (TokenIsGood Good Fine) (mark_part_before m []) rest (subst (AreGood Good Fine) (more-mark m [] rest) a)

  pub type-passed : (t : TypeForm) (rest : List Token) → AreGood Good Fine (type_before t rest) → AreGood Good Fine rest
  type-passed t rest a = all-behind (TokenIsGood Good Fine) (type_before t []) rest (subst (AreGood Good Fine) (more-type t [] rest) a)

  pub decl-parted : (d : DeclForm) (rest : List Token) → AreGood Good Fine (decl_before d rest) → AreGood Good Fine (decl_before d []) × AreGood Good Fine rest
  decl-parted d rest a =
      let parts = subst (AreGood Good Fine) (more-decl d [] rest) a in
      (all-front (TokenIsGood Good Fine) (decl_before d []) rest parts, all-behind (TokenIsGood Good Fine) (decl_before d []) rest parts)
