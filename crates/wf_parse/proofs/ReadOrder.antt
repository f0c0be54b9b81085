-- The statements of a package that is read stand in order of place.
use Rattle.std.proofs.Common.{◌≡◌, ◌+◌, ◌-◌, ℕ, true, List, [], ◌∷◌, length, refl, ◌∙◌, ap, subst}
use Rattle.std.proofs.lemmas.List.Folds.{list_all-append}
use Rattle.wf_text.specs.declared.place.Place.{Place}
use Rattle.wf_ast.specs.ParsedTree.{DeclTree}
use Rattle.wf_ast.specs.ReadPackage.{decls_of}
use Rattle.wf_ast.specs.StatementPlaces.{block_places, body_rises, bodies_rise}
use Rattle.wf_ast.proofs.BoolLemmas.{and-true}
use Rattle.wf_ast.proofs.Rising.{Rises, rises-among, rises-front, rises-behind, rise-passes}
use Rattle.wf_parse_grammar.specs.declared.tokens.Kind.TheVariants as kinds
use Rattle.wf_parse_grammar.specs.declared.tokens.Token.{Token}
use Rattle.wf_parse_grammar.specs.Grammar.{DeclForm, AStatus, AConst, AStruct, AFunc, FileForm, NoDecl, ADecl, token, name_token, mark_part_before, fields_before, type_part_before, vars_before, decl_before, file_before}
use Rattle.wf_parse_grammar.specs.Meaning.{decl_tree, file_trees, vars_tree}
use Rattle.wf_parse_grammar.proofs.CatenationMore.{more-decl}
use Rattle.wf_parse.specs.Parsing.{ReadsFiles}
use Rattle.wf_parse.specs.ReadForms.{ReadingRises}
use Rattle.wf_parse.proofs.TokenOrder.{file-rises}
use Rattle.wf_parse.proofs.GrammarOrder.{token-over, mark-part-over, body-among, fields-over, type-part-over, public-over}

decl-rises : (d : DeclForm) → Rises (λ (t : Token). t.at) (decl_before d []) → body_rises (decl_tree d) ≡ true
decl-rises (AStatus pu w n) r = refl
decl-rises (AConst pu w n c t q e) r = refl
decl-rises (AStruct pu w n m l fs x others) r = refl
decl-rises (AFunc pu w o d n m l fs r t x vs y) rises =
    let ps : List Place = block_places (vars_tree vs y) in
    let body : List Token = vars_before vs (token kinds.CloseCurly y ∷ []) in
    let tail : List Token = token kinds.OpenCurly x ∷ body in
    let behind : List Token = token kinds.CloseRound r ∷ type_part_before t tail in
    let args : List Token = token kinds.OpenRound l ∷ fields_before fs behind in
    let marked : List Token = mark_part_before m args in
    let in_tail = token-over ps (token kinds.OpenCurly x) body (body-among vs y []) in
    let in_behind = token-over ps (token kinds.CloseRound r) (type_part_before t tail) (type-part-over t ps tail in_tail) in
    let in_args = token-over ps (token kinds.OpenRound l) (fields_before fs behind) (fields-over fs ps behind in_behind) in
    let in_named = token-over ps (token kinds.Dot d) (name_token n ∷ marked) (token-over ps (name_token n) marked (mark-part-over m ps args in_args)) in
    let in_func = token-over ps (token kinds.Func w) (name_token o ∷ token kinds.Dot d ∷ name_token n ∷ marked) (token-over ps (name_token o) (token kinds.Dot d ∷ name_token n ∷ marked) in_named) in
    let all = public-over pu ps (token kinds.Func w ∷ name_token o ∷ token kinds.Dot d ∷ name_token n ∷ marked) in_func in
    rise-passes ps (rises-among (λ (p : Place). p) (λ (t : Token). t.at) ps (decl_before (AFunc pu w o d n m l fs r t x vs y) []) all rises)

decls-rise : (f : FileForm) → Rises (λ (t : Token). t.at) (file_before f []) → bodies_rise (file_trees f) ≡ true
decls-rise NoDecl rises = refl
decls-rise (ADecl d p more) rises =
    let behind : List Token = token kinds.Semicolon p ∷ file_before more [] in
    let P : List Token → Type 0 = Rises (λ (t : Token). t.at) in
    let parts = subst P (more-decl d [] behind) rises in
    let own = rises-front (λ (t : Token). t.at) (decl_before d []) behind parts in
    let others = rises-behind (λ (t : Token). t.at) (decl_before d []) behind parts in
    and-true (body_rises (decl_tree d)) (bodies_rise (file_trees more)) (decl-rises d own) (decls-rise more others.1)

files-rise : (number most : ℕ) (known : List (List ℕ)) (files : List (List ℕ)) (texts : List (List ℕ)) (trees : List DeclTree) → ReadsFiles number most known files texts trees → bodies_rise trees ≡ true
files-rise number most known [] texts trees r = ap bodies_rise r.1
files-rise number most known (bytes ∷ files) texts trees r =
    let accepted = r.4.accepted in
    let P : List Token → Type 0 = Rises (λ (t : Token). t.at) in
    let tokens = subst P accepted.text (file-rises number bytes known r.0 r.1 r.4.tokens_are) in
    let own : bodies_rise r.2 ≡ true = ap bodies_rise accepted.means ∙ decls-rise accepted.file tokens in
    let others = files-rise (number + 1) (most - length r.1) r.0 files texts r.3 r.5 in
    ap bodies_rise r.6 ∙ list_all-append body_rises r.2 r.3 ∙ and-true (bodies_rise r.2) (bodies_rise r.3) own others

pub reading_rises : ReadingRises
reading_rises name files p read = files-rise 0 262144 [] files p.texts (decls_of p) read.read
