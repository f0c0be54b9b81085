-- Locals of a body by their parts, where the code reads them.
use Rattle.std.proofs.Common.{◌≡◌, ◌∙◌, ap, sym, subst, ℕ, Bool, true, false, if◌then◌else◌, Result, Ok, Err, IfOk, OnOk, List, [], ◌∷◌, ◌++◌, refl}
use Rattle.wf_text.specs.declared.faults.NoMemory.{NoMemory}
use Rattle.c_text.specs.declared.nodes.CLocal.{CLocal}
use Rattle.c_text.specs.CNodes.{Nodes}
use Rattle.c_text.specs.CTree.{Code, ExprTree, LocalTree, TypeTree}
use Rattle.wf_exprs.specs.Grown.{Grows}
use Rattle.wf_exprs.specs.Reads.{code_reads}
use Rattle.wf_exprs.specs.Words.{num}
use Rattle.wf_exprs.proofs.Growing.{unchanged}
use Rattle.wf_exprs_nodes.specs.Marks.{AreThose}
use Rattle.wf_exprs_nodes.proofs.MarkLaws.{those_still}
use Rattle.wf_lower.specs.Bodies.{declared, only_read}
use Rattle.wf_lower.specs.Made.{AddsLocals, AddsRead, CodeReads, HasLocalTree}
use Rattle.wf_lower.proofs.Kept.{locals_after, locals_on, no_locals}
use Rattle.wf_lower.proofs.PartLaws.{read_apart}

-- What a test that was made chooses.
pub first_of : {A : Type 0} (b : Bool) (x y : A) → true ≡ b → x ≡ (if b then x else y)
first_of true x y h = refl
first_of false x y h = absurd (cc h)

pub second_of : {A : Type 0} (b : Bool) (x y : A) → false ≡ b → y ≡ (if b then x else y)
second_of true x y h = absurd (cc h)
second_of false x y h = refl

pub local_answer : (nodes : Nodes) (x y : LocalTree) (r : Result CLocal NoMemory) → x ≡ y → IfOk r (λ it. HasLocalTree nodes it x) → IfOk r (λ it. HasLocalTree nodes it y)
local_answer nodes x y r e h = let P : LocalTree → Type 0 = λ t. IfOk r (λ it. HasLocalTree nodes it t) in subst P e h

-- A local by a name and a value that are told in other words.
pub local_by : (nodes : Nodes) (kind : TypeTree) (begin end name : List ℕ) (e x : ExprTree) (r : Result CLocal NoMemory) → end ≡ name → e ≡ x
    → IfOk r (λ it. HasLocalTree nodes it (declared kind (begin ++ end) e)) → IfOk r (λ it. HasLocalTree nodes it (declared kind (begin ++ name) x))
local_by nodes kind begin end name e x r n is h =
    local_answer nodes (declared kind (begin ++ end) e) (declared kind (begin ++ name) x) r (ap (λ l. declared kind (begin ++ l) e) n ∙ ap (declared kind (begin ++ name)) is) h

pub adds_as : (a b : Nodes) (ps qs : List CLocal) (ts us : List LocalTree) → ts ≡ us → AddsLocals a b ps qs ts → AddsLocals a b ps qs us
adds_as a b ps qs ts us e h = let P : List LocalTree → Type 0 = λ l. AddsLocals a b ps qs l in subst P e h

pub no_locals_as : {a b : Nodes} (ps : List CLocal) (ts : List LocalTree) → [] ≡ ts → Grows a b → AddsLocals a b ps ps ts
no_locals_as {a} {b} ps ts e g = adds_as a b ps ps [] ts e (no_locals ps g)

-- What the code reads stays told while the unit grows.
pub still_reads : {a b : Nodes} {flags : List Bool} (code : Code) → Grows a b → CodeReads code a.names flags → CodeReads code b.names flags
still_reads {a} {b} {flags} code g reads = those_still (λ name. code_reads name code) a.names b.names flags g.more_names g.names reads

-- A local that the code reads is added, and one that it doesn't read isn't.
pub read_added : (flags : List Bool) (a : Nodes) (ps qs : List CLocal) (l : LocalTree) (r : Result (Unit {0}) NoMemory)
    → ((reads : List ℕ → Bool) → AreThose reads a.names flags → true ≡ reads l.name) → OnOk r (AddsLocals a a ps qs (l ∷ [])) → OnOk r (AddsRead flags a a ps qs (l ∷ []))
read_added flags a ps qs l (Ok u) tells h = λ code reads. adds_as a a ps qs (l ∷ []) (only_read code (l ∷ [])) (first_of (code_reads l.name code) (l ∷ []) [] (tells (λ name. code_reads name code) reads)) h
read_added flags a ps qs l (Err refused) tells h = h

-- The same where the unit grows by the local.
pub read_grown : (flags : List Bool) (a b : Nodes) (ps qs : List CLocal) (l : LocalTree) (r : Result (Unit {0}) NoMemory)
    → ((reads : List ℕ → Bool) → AreThose reads a.names flags → true ≡ reads l.name) → OnOk r (AddsLocals a b ps qs (l ∷ [])) → OnOk r (AddsRead flags a b ps qs (l ∷ []))
read_grown flags a b ps qs l (Ok u) tells h = λ code reads. adds_as a b ps qs (l ∷ []) (only_read code (l ∷ [])) (first_of (code_reads l.name code) (l ∷ []) [] (tells (λ name. code_reads name code) reads)) h
read_grown flags a b ps qs l (Err refused) tells h = h

pub unread_left : (flags : List Bool) (a : Nodes) (ps : List CLocal) (l : LocalTree)
    → ((reads : List ℕ → Bool) → AreThose reads a.names flags → false ≡ reads l.name) → AddsRead flags a a ps ps (l ∷ [])
unread_left flags a ps l tells = λ code reads. no_locals_as ps (only_read code (l ∷ [])) (second_of (code_reads l.name code) (l ∷ []) [] (tells (λ name. code_reads name code) reads)) (unchanged a a refl)

pub reads_after : (flags : List Bool) (a b c : Nodes) (ps qs : List CLocal) (xs ys : List LocalTree) (r : Result (Unit {0}) NoMemory) → Grows a b → xs ≡ ys → OnOk r (AddsRead flags b c ps qs xs) → OnOk r (AddsRead flags a c ps qs ys)
reads_after flags a b c ps qs xs ys (Ok u) g e f = λ code reads.
    locals_after a b c ps qs (only_read code xs) (only_read code ys) (Ok u) g (ap (only_read code) e) (f code (still_reads code g reads))
reads_after flags a b c ps qs xs ys (Err refused) g e f = f

pub reads_on : (flags : List Bool) (a b c : Nodes) (ps qs rs : List CLocal) (xs ys : List LocalTree) → Grows a b → AddsRead flags a b ps qs xs → AddsRead flags b c qs rs ys → AddsRead flags a c ps rs (xs ++ ys)
reads_on flags a b c ps qs rs xs ys g first second = λ code reads.
    let P : List LocalTree → Type 0 = λ l. AddsLocals a c ps rs l in
    subst P (sym (read_apart code xs ys)) (locals_on (only_read code xs) (only_read code ys) (first code reads) (second code (still_reads code g reads)))

pub reads_then : (flags : List Bool) (a b c : Nodes) (ps qs rs : List CLocal) (xs ys : List LocalTree) (r : Result (Unit {0}) NoMemory) → Grows a b → AddsRead flags a b ps qs xs → OnOk r (AddsRead flags b c qs rs ys) → OnOk r (AddsRead flags a c ps rs (xs ++ ys))
reads_then flags a b c ps qs rs xs ys (Ok u) g first second = reads_on flags a b c ps qs rs xs ys g first second
reads_then flags a b c ps qs rs xs ys (Err refused) g first second = second

-- Some locals that the code reads, then others that it reads, and then some more.
pub reads_between : (flags : List Bool) (a b c d : Nodes) (ps qs rs ss : List CLocal) (xs ys zs : List LocalTree) (r : Result (Unit {0}) NoMemory) → Grows a b
    → AddsRead flags a b ps qs xs → AddsRead flags b c qs rs ys → OnOk r (AddsLocals c d rs ss zs)
    → OnOk r ((code : Code) → CodeReads code a.names flags → AddsLocals a d ps ss (only_read code xs ++ (only_read code ys ++ zs)))
reads_between flags a b c d ps qs rs ss xs ys zs (Ok u) g first second third = λ code reads.
    let later = still_reads code g reads in
    locals_on (only_read code xs) (only_read code ys ++ zs) (first code reads) (locals_on (only_read code ys) zs (second code later) third)
reads_between flags a b c d ps qs rs ss xs ys zs (Err refused) g first second third = third

-- A local whose name is told in other words.
pub named_read : (flags : List Bool) (a b : Nodes) (ps qs : List CLocal) (kind : TypeTree) {n name : List ℕ} → n ≡ name → AddsRead flags a b ps qs (declared kind n (num 0) ∷ []) → AddsRead flags a b ps qs (declared kind name (num 0) ∷ [])
named_read flags a b ps qs kind e h = let P : List ℕ → Type 0 = λ n. AddsRead flags a b ps qs (declared kind n (num 0) ∷ []) in subst P e h

pub reads_named : (flags : List Bool) (a b : Nodes) (ps qs : List CLocal) (kind : TypeTree) {n name : List ℕ} (r : Result (Unit {0}) NoMemory) → n ≡ name → OnOk r (AddsRead flags a b ps qs (declared kind n (num 0) ∷ [])) → OnOk r (AddsRead flags a b ps qs (declared kind name (num 0) ∷ []))
reads_named flags a b ps qs kind r e h = let P : List ℕ → Type 0 = λ n. OnOk r (AddsRead flags a b ps qs (declared kind n (num 0) ∷ [])) in subst P e h
