-- The declarations of a package stand in its files, with all their tokens.
use Rattle.std.proofs.Common.{◌≡◌, ◌≤◌, ◌<◌, ◌+◌, ◌-◌, ℕ, List, [], ◌∷◌, ◌++◌, length, refl, sym, subst, arith}
use Rattle.std.specs.List.{AllByRecursion}
use Rattle.wf_ast.specs.ParsedTree.{DeclTree}
use Rattle.wf_ast.specs.ReadPackage.{decls_of}
use Rattle.wf_parse_grammar.specs.declared.tokens.Kind.TheVariants as kinds
use Rattle.wf_parse_grammar.specs.declared.tokens.Token.{Token}
use Rattle.wf_parse_grammar.specs.Grammar.{FileForm, NoDecl, ADecl, token, decl_before, file_before}
use Rattle.wf_parse_grammar.specs.Meaning.{file_trees}
use Rattle.wf_parse_grammar.proofs.CatenationMore.{more-decl}
use Rattle.wf_parse.specs.OneReading.{IsOfFile, IsOfFiles, DeclsHaveFiles}
use Rattle.wf_parse.specs.Parsing.{ReadsFiles}
use Rattle.wf_parse.proofs.RefusalPlaces.{InFile, whole-file}

split-file : (file : ℕ) (front back : List Token) → InFile file (front ++ back) → InFile file front × InFile file back
split-file file [] back a = (tt, a)
split-file file (t ∷ front) back a = let rest = split-file file front back a.1 in ((a.0, rest.0), rest.1)

decls-file : (file : ℕ) (f : FileForm) → InFile file (file_before f []) → AllByRecursion (IsOfFile file) (file_trees f)
decls-file file NoDecl a = tt
decls-file file (ADecl d p more) a =
    let behind : List Token = token kinds.Semicolon p ∷ file_before more [] in
    let P : List Token → Type 0 = InFile file in
    let parts = split-file file (decl_before d []) behind (subst P (more-decl d [] behind) a) in
    (record { form = d; means = refl; there = parts.0 }, decls-file file more parts.1.1)

-- The same among more files.
of-files : (file most : ℕ) (trees : List DeclTree) → file < most → AllByRecursion (IsOfFile file) trees → AllByRecursion (IsOfFiles most) trees
of-files file most [] below a = tt
of-files file most (d ∷ trees) below a = (record { file = file; below = below; of = a.0 }, of-files file most trees below a.1)

more-files : (few most : ℕ) (trees : List DeclTree) → few ≤ most → AllByRecursion (IsOfFiles few) trees → AllByRecursion (IsOfFiles most) trees
more-files few most [] below a = tt
more-files few most (d ∷ trees) below a =
    let under = a.0.below in
    (record { file = a.0.file; below = omega (arith, under, below); of = a.0.of }, more-files few most trees below a.1)

both-files : (most : ℕ) (trees others : List DeclTree) → AllByRecursion (IsOfFiles most) trees → AllByRecursion (IsOfFiles most) others → AllByRecursion (IsOfFiles most) (trees ++ others)
both-files most [] others a b = b
both-files most (d ∷ trees) others a b = (a.0, both-files most trees others a.1 b)

read-files : (number most : ℕ) (known : List (List ℕ)) (files : List (List ℕ)) (texts : List (List ℕ)) (trees : List DeclTree) → ReadsFiles number most known files texts trees → AllByRecursion (IsOfFiles (number + length files)) trees
read-files number most known [] texts trees r =
    let Q : List DeclTree → Type 0 = AllByRecursion (IsOfFiles (number + 0)) in
    subst Q (sym r.1) tt
read-files number most known (bytes ∷ files) texts trees r =
    let accepted = r.4.accepted in
    let P : List Token → Type 0 = InFile number in
    let Q : List DeclTree → Type 0 = AllByRecursion (IsOfFile number) in
    let Z : List DeclTree → Type 0 = AllByRecursion (IsOfFiles (number + length (bytes ∷ files))) in
    let here = whole-file number bytes known r.0 r.1 r.4.tokens_are in
    let own = subst Q (sym accepted.means) (decls-file number accepted.file (subst P accepted.text here)) in
    let others = read-files (number + 1) (most - length r.1) r.0 files texts r.3 r.5 in
    subst Z (sym r.6) (both-files (number + length (bytes ∷ files)) r.2 r.3 (of-files number (number + length (bytes ∷ files)) r.2 (omega arith) own) (more-files (number + 1 + length files) (number + length (bytes ∷ files)) r.3 (omega arith) others))

pub decls_have_files : DeclsHaveFiles
decls_have_files name files p a =
    let P : ℕ → Type 0 = λ n. AllByRecursion (IsOfFiles n) (decls_of p) in
    let none : 0 + length files ≡ length files = omega arith in
    subst P none (read-files 0 262144 [] files p.texts (decls_of p) a.read)
