-- A package, file by file.
use Rattle.std.proofs.Common.{◌≡◌, ◌≤◌, ◌<◌, ◌+◌, inl, inr, ℕ, zero, suc, Err, List, [], ◌∷◌, ◌++◌, map, drop, length, refl, sym, ◌∙◌, ap, subst, arith, append_assoc, get_or}
use Rattle.std.proofs.Math.Seq.{drop-cons, drop-nil}
use Rattle.std.proofs.lemmas.List.{append-nil, drop-map}
use Rattle.std.specs.Prelude.{sum_by}
use Rattle.std.proofs.lemmas.List.Sums.{sum_by-cons}
use Rattle.wf_text.specs.declared.faults.PhaseFault.{PhaseFault}
use Rattle.wf_text.specs.declared.faults.PhaseFault.TheVariants as phase
use Rattle.wf_text.specs.declared.rules.Refusal.{Refusal}
use Rattle.wf_ast.specs.ParsedParts.{Parsed}
use Rattle.wf_ast.specs.ParsedTree.{DeclTree}
use Rattle.wf_ast.specs.ParsedTrees.{decl_trees}
use Rattle.wf_ast.specs.ReadPackage.{decls_of}
use Rattle.wf_parse_nodes.specs.declared.maker.Maker.{Maker}
use Rattle.wf_parse_nodes.specs.declared.values.SemanticValue.{SemanticValue}
use Rattle.wf_parse_nodes.specs.Makers.{IsSound, nodes}
use Rattle.wf_parse_nodes.specs.Seen.{AreOf, IsOrdered}
use Rattle.wf_parse.specs.Parsing.{RefusesFile, ReadsFiles, RefusesFiles, IsRefusedBy, AnswersParse}
use Rattle.wf_parse.specs.Reading.{ReadsOne, AnswersBytes}

-- What is read and refused from here on is read and refused from the first file on.
pub record Leads (number most : ℕ) (p : Parsed) (rest files : List (List ℕ)) : Type 0 where
  pub reads : (texts : List (List ℕ)) (later : List DeclTree) → ReadsFiles number most p.texts rest texts later → ReadsFiles 0 262144 [] files texts (decls_of p ++ later)
  pub refuses : (refusal : Refusal) → RefusesFiles number most p.texts rest refusal → RefusesFiles 0 262144 [] files refusal

pub leads_start : (p : Parsed) (name : List ℕ) (files : List (List ℕ)) → p ≡ record { name = name; texts = []; exprs = []; stmts = []; decls = [] } → Leads 0 262144 p files files
unfolding decl_trees
leads_start p name files e =
    let no_decls : decls_of p ≡ [] = ap decls_of e in
    let no_texts : p.texts ≡ [] = ap (λ (x : Parsed). x.texts) e in
    let P : List DeclTree → List (List ℕ) → Type 0 = λ before known. (texts : List (List ℕ)) (later : List DeclTree) → ReadsFiles 0 262144 known files texts later → ReadsFiles 0 262144 [] files texts (before ++ later) in
    let Q : List (List ℕ) → Type 0 = λ known. (refusal : Refusal) → RefusesFiles 0 262144 known files refusal → RefusesFiles 0 262144 [] files refusal in
    record { reads = subst (λ before. P before p.texts) (sym no_decls) (subst (P []) (sym no_texts) (λ texts later h. h)); refuses = subst Q (sym no_texts) (λ refusal h. h) }

pub leads_more : (number most left : ℕ) (bytes : List ℕ) (p q : Parsed) (rest files : List (List ℕ)) → Leads number most p (bytes ∷ rest) files → ReadsOne number most bytes p q left → Leads (number + 1) left q rest files
leads_more number most left bytes p q rest files leads one = record {
  reads = λ texts later h.
      let P : ℕ → Type 0 = λ n. ReadsFiles (number + 1) n q.texts rest texts later in
      let Q : List DeclTree → Type 0 = ReadsFiles 0 262144 [] files texts in
      let all : decls_of p ++ (one.trees ++ later) ≡ decls_of q ++ later = sym (append_assoc (decls_of p) one.trees later) ∙ ap (λ ds. ds ++ later) (sym one.decls_are) in
      subst Q all (leads.reads texts (one.trees ++ later) (q.texts, one.tokens, one.trees, later, one.read, subst P one.left_is h, refl));
  refuses = λ refusal h.
      let P : ℕ → Type 0 = λ n. RefusesFiles (number + 1) n q.texts rest refusal in
      leads.refuses refusal (inr (q.texts, one.tokens, one.trees, one.read, subst P one.left_is h));
}

pub leads_refused : (number most : ℕ) (bytes : List ℕ) (p : Parsed) (rest files : List (List ℕ)) (refusal : Refusal) → Leads number most p (bytes ∷ rest) files → RefusesFile number most p.texts bytes refusal → IsRefusedBy files refusal
leads_refused number most bytes p rest files refusal leads one = leads.refuses refusal (inl one)

pub leads_done : (number most : ℕ) (p : Parsed) (files : List (List ℕ)) → Leads number most p [] files → ReadsFiles 0 262144 [] files p.texts (decls_of p)
leads_done number most p files leads =
    let P : List DeclTree → Type 0 = ReadsFiles 0 262144 [] files p.texts in
    subst P (append-nil (decls_of p)) (leads.reads p.texts [] (refl, refl))

-- The bytes of the files from one on.
module _ {X : Type 0} (f : X → List ℕ) where
  abbrev pub bytes_from : List X → ℕ
  bytes_from files = sum_by (λ x. length (f x)) files

  pub file_at : (files : List X) (i : ℕ) (x : X) → i < length files → x ≡ get_or files i x → drop i files ≡ x ∷ drop (i + 1) files
  file_at files i x h e =
      let more : suc i ≡ i + 1 = omega arith in
      drop-cons files i x h ∙ ap (λ y. y ∷ drop (suc i) files) (sym e) ∙ ap (λ n. x ∷ drop n files) more

  pub files_step : (files : List X) (i : ℕ) (x : X) → i < length files → x ≡ get_or files i x → drop i (map f files) ≡ f x ∷ drop (i + 1) (map f files)
  files_step files i x h e = drop-map f i files ∙ ap (map f) (file_at files i x h e) ∙ ap (λ xs. f x ∷ xs) (sym (drop-map f (i + 1) files))

  pub bytes_step : (files : List X) (i : ℕ) (x : X) → i < length files → x ≡ get_or files i x → bytes_from (drop i files) ≡ length (f x) + bytes_from (drop (i + 1) files)
  bytes_step files i x h e = ap bytes_from (file_at files i x h e) ∙ sum_by-cons (λ y. length (f y)) x (drop (i + 1) files)

  pub files_done : (files : List X) (i : ℕ) → length files ≤ i → drop i (map f files) ≡ []
  files_done files i h = drop-map f i files ∙ ap (map f) (drop_past files i h)
    where
      drop_past : (xs : List X) (n : ℕ) → length xs ≤ n → drop n xs ≡ []
      drop_past [] n m = drop-nil n
      drop_past (y ∷ ys) zero m = absurd (omega arith)
      drop_past (y ∷ ys) (suc n) m = drop_past ys n (omega arith)

-- A machine before the first file.
pub new_sound : (m : Maker) (name : List ℕ) → m.package ≡ record { name = name; texts = []; exprs = []; stmts = []; decls = [] } → m.values ≡ [] → IsSound m
new_sound m name e f =
    let P : Parsed → Type 0 = IsOrdered in
    let Q : List SemanticValue → Type 0 = AreOf m.package in
    record { ordered = subst P (sym e) (record { stmts = tt; decls = tt }); below = subst Q (sym f) tt }

pub new_nodes : (m : Maker) (name : List ℕ) → m.package ≡ record { name = name; texts = []; exprs = []; stmts = []; decls = [] } → nodes m ≡ 0
new_nodes m name e = ap (λ (p : Parsed). length p.exprs + length p.stmts) e

pub new_texts : (m : Maker) (name : List ℕ) → m.package ≡ record { name = name; texts = []; exprs = []; stmts = []; decls = [] } → length m.package.texts ≡ 0
new_texts m name e = ap (λ (p : Parsed). length p.texts) e

pub new_name : (m : Maker) (name : List ℕ) → m.package ≡ record { name = name; texts = []; exprs = []; stmts = []; decls = [] } → m.package.name ≡ name
new_name m name e = ap (λ (p : Parsed). p.name) e

-- A fault of one file is a fault of the package.
pub parse_fault : (name : List ℕ) (number most index : ℕ) (bytes item : List ℕ) (p q : Parsed) (rest files : List (List ℕ)) (fault : PhaseFault) → Leads index most p (item ∷ rest) files → number ≡ index → bytes ≡ item
    → AnswersBytes number most bytes p q (Err fault) → AnswersParse name files (Err fault)
parse_fault name number most index bytes item p q rest files (phase.Refused refusal) leads e f answers =
    let P : ℕ → Type 0 = λ n. RefusesFile n most p.texts bytes refusal in
    let Q : List ℕ → Type 0 = λ b. RefusesFile index most p.texts b refusal in
    leads_refused index most item p rest files refusal leads (subst Q f (subst P e answers))
parse_fault name number most index bytes item p q rest files phase.Memory leads e f answers = tt

pub leads_next : (number most index left : ℕ) (bytes item : List ℕ) (p q : Parsed) (rest files : List (List ℕ)) → Leads index most p (item ∷ rest) files → number ≡ index → bytes ≡ item
    → ReadsOne number most bytes p q left → Leads (index + 1) left q rest files
leads_next number most index left bytes item p q rest files leads e f one =
    let P : ℕ → Type 0 = λ n. ReadsOne n most bytes p q left in
    let Q : List ℕ → Type 0 = λ b. ReadsOne index most b p q left in
    leads_more index most left item p q rest files leads (subst Q f (subst P e one))

pub leads_at : (number most : ℕ) (p : Parsed) (rest others files : List (List ℕ)) → rest ≡ others → Leads number most p rest files → Leads number most p others files
leads_at number most p rest others files e l = let P : List (List ℕ) → Type 0 = λ xs. Leads number most p xs files in subst P e l
