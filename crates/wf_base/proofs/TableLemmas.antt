-- A look-up of a base method finds a row of the table, and every row is found.
use Rattle.std.proofs.Common.{◌≡◌, ℕ, Bool, true, false, cond, List, [], ◌∷◌, Option, Some, None, IfSome, IfNone, find, slice_get, is_some, bytes_eq, zero, suc, refl, ◌∙◌, ap, subst}
use Rattle.std.specs.List.{AllByRecursion}
use Rattle.std.proofs.lemmas.Slice.Eq.{bytes_eq-Decides}
use Rattle.wf_base.specs.declared.base_methods.Kind.{Kind}
use Rattle.wf_base.specs.declared.base_methods.Kind.TheVariants.{Reader, Writer, Slice, Array, Status}
use Rattle.wf_base.specs.declared.base_methods.BaseSig.{BaseSig}
use Rattle.wf_base.specs.declared.base_methods.BaseSig.TheVariants.{ReaderLength, ReaderIsClosed, ReaderPosition, Read, Skip, Peek, SkipFast, WriterLength, WriterPosition, Write, WriteFast, WriterCopy, SliceCopy, SliceLength, ArrayLength, IsOk, IsNote, IsSuspension, IsError}
use Rattle.wf_base.specs.declared.base_methods.ReadForm.TheVariants.{ReadU8, ReadU16Be, ReadU16Le, ReadU32Be, ReadU32Le, ReadU64Be, ReadU64Le}
use Rattle.wf_base.specs.declared.base_methods.PeekForm.TheVariants.{PeekU8, PeekU16Le, PeekU32Le}
use Rattle.wf_base.specs.BaseTable.{row_of, methods_on, IsMethod, method_named}

-- What is found passes the test.
found_passes : {X : Type 0} (p : X → Bool) (P : X → Type 0) (xs : List X) → AllByRecursion (λ x. p x ≡ true → P x) xs → IfSome (find p xs) P
found_passes p P [] h = tt
found_passes {X} p P (x ∷ xs) h = by (p x) h.0 (found_passes p P xs h.1)
  where
    by : (b : Bool) → (b ≡ true → P x) → IfSome (find p xs) P → IfSome (cond b (Some x) (find p xs)) P
    by true pass rest = pass refl
    by false pass rest = rest

-- What passes is found, or something before it.
passing_found : {X : Type 0} (p : X → Bool) (xs : List X) (k : ℕ) (x : X) → slice_get xs k ≡ Some x → p x ≡ true → is_some (find p xs) ≡ true
passing_found p [] k x at pass = cc at
passing_found {X} p (y ∷ ys) zero x at pass = by (p y) (ap p (some_is y x at) ∙ pass)
  where
    some_is : (a b : X) → Some a ≡ Some b → a ≡ b
    some_is a b e = cc e

    by : (b : Bool) → b ≡ true → is_some (cond b (Some y) (find p ys)) ≡ true
    by true e = refl
    by false e = absurd (cc e)
passing_found p (y ∷ ys) (suc k) x at pass = by (p y) (passing_found p ys k x at pass)
  where
    by : (b : Bool) → is_some (find p ys) ≡ true → is_some (cond b (Some y) (find p ys)) ≡ true
    by true rest = refl
    by false rest = rest

-- Each method that is listed for a kind has that kind in its row.
listed : (kind : Kind) → AllByRecursion (λ method. (row_of method).on ≡ kind) (methods_on kind)
listed Reader = (refl, (refl, (refl, (refl, (refl, (refl, (refl, (refl, (refl, (refl, (refl, (refl, (refl, (refl, (refl, tt)))))))))))))))
listed Writer = (refl, (refl, (refl, (refl, (refl, tt)))))
listed (Slice width) = (refl, (refl, tt))
listed (Array width) = (refl, tt)
listed Status = (refl, (refl, (refl, (refl, tt))))

-- And each row is listed for its kind.
number_of : (method : BaseSig) → (k : ℕ) × (slice_get (methods_on (row_of method).on) k ≡ Some method)
number_of ReaderLength = (0, refl)
number_of ReaderIsClosed = (1, refl)
number_of ReaderPosition = (2, refl)
number_of (Read ReadU8) = (3, refl)
number_of (Read ReadU16Be) = (4, refl)
number_of (Read ReadU16Le) = (5, refl)
number_of (Read ReadU32Be) = (6, refl)
number_of (Read ReadU32Le) = (7, refl)
number_of (Read ReadU64Be) = (8, refl)
number_of (Read ReadU64Le) = (9, refl)
number_of Skip = (10, refl)
number_of (Peek PeekU8) = (11, refl)
number_of (Peek PeekU16Le) = (12, refl)
number_of (Peek PeekU32Le) = (13, refl)
number_of SkipFast = (14, refl)
number_of WriterLength = (0, refl)
number_of WriterPosition = (1, refl)
number_of Write = (2, refl)
number_of WriteFast = (3, refl)
number_of WriterCopy = (4, refl)
number_of (SliceCopy width) = (0, refl)
number_of (SliceLength width) = (1, refl)
number_of (ArrayLength width) = (0, refl)
number_of IsOk = (0, refl)
number_of IsNote = (1, refl)
number_of IsSuspension = (2, refl)
number_of IsError = (3, refl)

named_too : (kind : Kind) (name : List ℕ) (xs : List BaseSig) → AllByRecursion (λ method. (row_of method).on ≡ kind) xs → AllByRecursion (λ method. bytes_eq (row_of method).name name ≡ true → IsMethod kind name method) xs
named_too kind name [] h = tt
named_too kind name (x ∷ xs) h = (λ e. (h.0, (bytes_eq-Decides (row_of x).name name).0 e), named_too kind name xs h.1)

pub method_named_found : (kind : Kind) (name : List ℕ) → IfSome (method_named kind name) (λ method. IsMethod kind name method)
method_named_found kind name = found_passes (λ method. bytes_eq (row_of method).name name) (IsMethod kind name) (methods_on kind) (named_too kind name (methods_on kind) (listed kind))

found_where : (kind : Kind) (name : List ℕ) (method : BaseSig) → IsMethod kind name method → is_some (method_named kind name) ≡ true
found_where kind name method h =
    let P : Kind → Type 0 = λ on. is_some (method_named on name) ≡ true in
    let at = number_of method in
    subst P h.0 (passing_found (λ it. bytes_eq (row_of it).name name) (methods_on (row_of method).on) at.0 method at.1 ((bytes_eq-Decides (row_of method).name name).1 h.1))

pub method_named_none : (kind : Kind) (name : List ℕ) → IfNone (method_named kind name) ((method : BaseSig) → IsMethod kind name method → ⊥)
method_named_none kind name = by (method_named kind name) (found_where kind name)
  where
    by : (found : Option BaseSig) → ((method : BaseSig) → IsMethod kind name method → is_some found ≡ true) → IfNone found ((method : BaseSig) → IsMethod kind name method → ⊥)
    by None h = λ method is. cc (h method is)
    by (Some x) h = tt
