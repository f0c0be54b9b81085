-- All declarations of a package that is read are well formed, and all holds of it that a package keeps.
use Rattle.std.proofs.Common.{◌≡◌, ◌+◌, ◌-◌, ℕ, true, List, [], ◌∷◌, ◌++◌, length, refl, sym, ◌∙◌, subst}
use Rattle.std.specs.List.{list_all}
use Rattle.std.proofs.lemmas.List.Folds.{list_all-append}
use Rattle.wf_ast.specs.ParsedTree.{DeclTree}
use Rattle.wf_ast.specs.ReadPackage.{decls_of}
use Rattle.wf_ast.specs.WellFormed.{well_formed}
use Rattle.wf_ast.proofs.BoolLemmas.{and-true}
use Rattle.wf_parse.specs.Parsing.{ReadsFiles}
use Rattle.wf_parse.specs.TokenForms.{AreFormed}
use Rattle.wf_parse.specs.ReadForms.{PackagesAreWellFormed, ParsedIsRead}
use Rattle.wf_parse.proofs.DeclCounts.{decls_are_few}
use Rattle.wf_parse.proofs.DeclForms.{file-formed}
use Rattle.wf_parse.proofs.ReadOrder.{reading_rises}
use Rattle.wf_parse.proofs.SpeltTokens.{tokens_are_formed}

-- These declarations are well formed.
abbrev AllWellFormed : List DeclTree → Type 0
AllWellFormed decls = list_all well_formed decls ≡ true

files-formed : (number most : ℕ) (known : List (List ℕ)) (files : List (List ℕ)) (texts : List (List ℕ)) (trees : List DeclTree) → ReadsFiles number most known files texts trees → AllWellFormed trees
files-formed number most known [] texts trees r = subst AllWellFormed (sym r.1) refl
files-formed number most known (bytes ∷ files) texts trees r =
    let accepted = r.4.accepted in
    let here = tokens_are_formed number bytes known r.0 r.1 r.4.tokens_are in
    let own = subst AllWellFormed (sym accepted.means) (file-formed accepted.file (subst AreFormed accepted.text here)) in
    let others = files-formed (number + 1) (most - length r.1) r.0 files texts r.3 r.5 in
    let whole : AllWellFormed (r.2 ++ r.3) = list_all-append well_formed r.2 r.3 ∙ and-true (list_all well_formed r.2) (list_all well_formed r.3) own others in
    subst AllWellFormed (sym r.6) whole

pub packages_are_well_formed : PackagesAreWellFormed
packages_are_well_formed name files p a = files-formed 0 262144 [] files p.texts (decls_of p) a.read

pub parsed_is_read : ParsedIsRead
parsed_is_read name files p a = record {
  formed = packages_are_well_formed name files p a;
  rises = reading_rises name files p a;
  few = decls_are_few name files p a;
}
