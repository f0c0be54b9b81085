-- What a package breaks of the rules of names stands in one of its files.
use Rattle.std.proofs.Common.{◌≡◌, ◌<◌, ℕ, List, [], sym, subst, length}
use Rattle.std.specs.List.{AllByRecursion}
use Rattle.wf_text.specs.declared.place.Place.{Place}
use Rattle.wf_ast.specs.ParsedTree.{DeclTree}
use Rattle.wf_ast.specs.ReadPackage.{decls_of}
use Rattle.wf_parse_grammar.specs.declared.tokens.Token.{Token}
use Rattle.wf_parse_grammar.specs.Grammar.{decl_before}
use Rattle.wf_parse.specs.OneReading.{IsOfFiles}
use Rattle.wf_ast.proofs.TreeLemmas.{all_map}
use Rattle.wf_parse.proofs.DeclPlaces.{decls_have_files}
use Rattle.wf_names_rules.specs.Declarations.{declared}
use Rattle.wf_read_laws.specs.Places.{DeclIsIn}
use Rattle.wf_read_laws.specs.PlaceLaws.{BreaksHaveFiles, PackagesBreakInFiles}
use Rattle.wf_read_laws.proofs.DeclPlaces.{decl-in}
use Rattle.wf_read_laws.proofs.DeclaredPlaces.{declared-in}
use Rattle.wf_read_laws.proofs.BreakPlaces.{breaks-in}

-- A place in one of so many files.
abbrev pub Below : ℕ → Place → Type 0
Below count at = at.file < count

decl-below : (count : ℕ) (decl : DeclTree) → IsOfFiles count decl → DeclIsIn (Below count) decl
decl-below count decl of =
    let P : DeclTree → Type 0 = DeclIsIn (Below count) in
    let F : ℕ → Type 0 = λ file. file < count in
    let there = all_map (λ (t : Token). t.at.file ≡ of.file) (λ t. Below count t.at) (λ t e. subst F (sym e) of.below) (decl_before of.of.form []) of.of.there in
    subst P (sym of.of.means) (decl-in (Below count) of.of.form [] there)

pub decls-below : (count : ℕ) (decls : List DeclTree) → AllByRecursion (IsOfFiles count) decls → AllByRecursion (DeclIsIn (Below count)) decls
decls-below count decls of = all_map (IsOfFiles count) (DeclIsIn (Below count)) (decl-below count) decls of

pub breaks_have_files : BreaksHaveFiles
breaks_have_files count texts decls of s b =
    breaks-in (Below count) (declared texts decls) (declared-in (Below count) texts decls (decls-below count decls of)) s b

pub packages_break_in_files : PackagesBreakInFiles
packages_break_in_files name files p read s b = breaks_have_files (length files) p.texts (decls_of p) (decls_have_files name files p read) s b
