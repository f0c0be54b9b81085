-- A package that is read has at most a fourth as many declarations as tokens.
use Rattle.std.proofs.Common.{◌≡◌, ◌≤◌, ◌+◌, ◌-◌, ◌*◌, ℕ, suc, List, [], ◌∷◌, length, length-append, refl, ◌∙◌, ap, arith}
use Rattle.wf_ast.specs.declared.parsed.DeclNode.{DeclNode}
use Rattle.wf_ast.specs.declared.parsed.ExprNode.{ExprNode}
use Rattle.wf_ast.specs.declared.parsed.StmtNode.{StmtNode}
use Rattle.wf_ast.specs.ParsedTree.{ExprTree, StmtTree, DeclTree}
use Rattle.wf_ast.specs.ParsedTrees.{expr_trees, stmt_trees, decls_made, decl_trees}
use Rattle.wf_ast.specs.ReadPackage.{decls_of}
use Rattle.wf_parse_grammar.specs.declared.tokens.Kind.TheVariants as kinds
use Rattle.wf_parse_grammar.specs.declared.tokens.Token.{Token}
use Rattle.wf_parse_grammar.specs.Grammar.{IsPub, IsPri, DeclForm, AStatus, AConst, AStruct, AFunc, FileForm, NoDecl, ADecl, token, decl_before, file_before}
use Rattle.wf_parse_grammar.specs.Meaning.{file_trees}
use Rattle.wf_parse_grammar.proofs.CatenationMore.{more-decl}
use Rattle.wf_parse.specs.Parsing.{ReadsFiles}
use Rattle.wf_parse.specs.ReadForms.{DeclsAreFew}

-- A declaration has three tokens or more: `pub` or `pri`, its word, and its name.
decl-counts : (d : DeclForm) (rest : List Token) → 3 ≤ length (decl_before d rest)
decl-counts (AStatus (IsPub at) w n) rest = omega arith
decl-counts (AStatus (IsPri at) w n) rest = omega arith
decl-counts (AConst (IsPub at) w n c t q e) rest = omega arith
decl-counts (AConst (IsPri at) w n c t q e) rest = omega arith
decl-counts (AStruct (IsPub at) w n m l fs r others) rest = omega arith
decl-counts (AStruct (IsPri at) w n m l fs r others) rest = omega arith
decl-counts (AFunc (IsPub at) w o d n m l fs r t x vs y) rest = omega arith
decl-counts (AFunc (IsPri at) w o d n m l fs r t x vs y) rest = omega arith

-- Each declaration of a file has a semicolon after it.
file-counts : (f : FileForm) → 4 * length (file_trees f) ≤ length (file_before f [])
file-counts NoDecl = omega arith
file-counts (ADecl d p more) =
    let behind : List Token = token kinds.Semicolon p ∷ file_before more [] in
    let parts : length (decl_before d behind) ≡ length (decl_before d []) + length behind = ap length (more-decl d [] behind) ∙ length-append (decl_before d []) behind in
    let few = decl-counts d [] in
    let others = file-counts more in
    omega (arith, parts, few, others)

files-count : (number most : ℕ) (known : List (List ℕ)) (files : List (List ℕ)) (texts : List (List ℕ)) (trees : List DeclTree) → ReadsFiles number most known files texts trees → 4 * length trees ≤ most
files-count number most known [] texts trees r =
    let none : length trees ≡ 0 = ap length r.1 in
    omega (arith, none)
files-count number most known (bytes ∷ files) texts trees r =
    let accepted = r.4.accepted in
    let tokens : length r.1 ≡ length (file_before accepted.file []) = ap length accepted.text in
    let own : length r.2 ≡ length (file_trees accepted.file) = ap length accepted.means in
    let few = r.4.few in
    let first = file-counts accepted.file in
    let others = files-count (number + 1) (most - length r.1) r.0 files texts r.3 r.5 in
    let whole : length trees ≡ length r.2 + length r.3 = ap length r.6 ∙ length-append r.2 r.3 in
    omega (arith, tokens, own, few, first, others, whole)

-- A node has one tree.
made-long : (es : List ExprTree) (ts : List StmtTree) (ds : List DeclNode) → length (decls_made es ts ds) ≡ length ds
made-long es ts [] = refl
made-long es ts (d ∷ ds) = ap suc (made-long es ts ds)

trees-long : (exprs : List ExprNode) (stmts : List StmtNode) (ds : List DeclNode) → length (decl_trees exprs stmts ds) ≡ length ds
unfolding decl_trees
trees-long exprs stmts ds = made-long (expr_trees exprs) (stmt_trees exprs stmts) ds

pub decls_are_few : DeclsAreFew
decls_are_few name files p a =
    let few = files-count 0 262144 [] files p.texts (decls_of p) a.read in
    let long = trees-long p.exprs p.stmts p.decls in
    omega (arith, few, long)
