-- An item is formed exactly where it keeps its rules.
use Rattle.std.proofs.Common.{◌≡◌, ℕ, suc, Bool, true, false, not, ◌&&◌, List, [], ◌∷◌, ◌++◌, map, take, Option, Some, None, refl, sym, ap, ◌∙◌, subst, append_assoc}
use Rattle.std.specs.Prelude.{bytes_eq, codes, is_none, if◌then◌else◌}
use Rattle.std.specs.Bool.{Decides}
use Rattle.std.specs.List.{list_all}
use Rattle.std.proofs.lemmas.Bool.Decides.{Decides-and, Decides-or, Decides-not, Decides-like}
use Rattle.std.proofs.lemmas.Slice.Eq.{bytes_eq-Decides}
use Rattle.wf_text.specs.Surface.{Surface}
use Rattle.c_text.specs.declared.kinds.CNumber.{CNumber}
use Rattle.c_text.specs.declared.kinds.Linkage.{Linkage}
use Rattle.c_text.specs.declared.kinds.Linkage.TheVariants.{External, Static, StaticInline}
use Rattle.c_text.specs.CTree.{TypeTree, ExprTree, Code, FieldKind, plain, inside, FieldTree, ParamTree, LocalTree, ItemTree, struct_item, text_item, function_item}
use Rattle.c_meaning.specs.CTypes.{CScope, structs_of, scope_of, local_name, io_buffer, is_known, same_type}
use Rattle.c_meaning.specs.CStep.{stop}
use Rattle.c_meaning.specs.CRun.{struct_name}
use Rattle.c_meaning.specs.UnitForm.{is_among, all_distinct, item_name, is_library, formed_field, formed_fields, is_field, are_fields, io_buffer_fields, is_io_buffer, Checked, labels_of, formed_code, formed_initial, formed_locals, is_result, checked, own_names as formed_names, formed_function, formed_content, Signature, signatures, same_params, same_result, is_external, has_signature, is_struct, meets_signature, meets_struct, meets_surface, free_name, formed_item}
use Rattle.c_form_laws.specs.Places.{Each, AllDiffer}
use Rattle.c_form_laws.specs.TypeRules.{IsKnown, IsField}
use Rattle.c_form_laws.specs.UnitRules.{IsLibrary, buffer_field, buffer_item, KeepsFields, IsOwnName, MayBegin, KeepsLocal, own_names, KeepsFunction, KeepsContent, IsFunction, MeetsSurface, KeepsItem}
use Rattle.c_form_laws.proofs.Places.{each_front, each_none, each-decides, among-decides, differ-decides}
use Rattle.c_form_laws.proofs.TypeLaws.{none-decides, type-decides, known-decides, result-decides, field-decides}
use Rattle.c_form_laws.proofs.StatementLaws.{body-decides, begins-decides, labels-decide}

-- Two tests, the second of which is known only where the first holds.
then-decides : {P Q : Type 0} (x y : Bool) → Decides x P → (P → Decides y Q) → Decides (x && y) (P × Q)
then-decides {P} {Q} true y d k = (λ h. (d.0 refl, (k (d.0 refl)).0 h), λ h. (k h.0).1 h.1)
then-decides {P} {Q} false y d k = (λ h. absurd (cc h), λ h. absurd (let e = d.1 h.0 in cc e))

-- Names.
library-decides : (name : List ℕ) → Decides (is_library name) (IsLibrary name)
library-decides name = Decides-or (bytes_eq name (codes "memmove")) (bytes_eq name (codes "memset")) (bytes_eq-Decides name (codes "memmove")) (bytes_eq-Decides name (codes "memset"))

free-decides : (all : List (List ℕ)) (name : List ℕ) → Decides (not (is_among all name) && not (is_library name)) (IsOwnName all name)
free-decides all name = Decides-and (not (is_among all name)) (not (is_library name)) (Decides-not (is_among all name) (among-decides all name)) (Decides-not (is_library name) (library-decides name))

-- Fields.
fields-decides : (before : List ItemTree) (fields : List FieldTree) → Decides (formed_fields (structs_of before) fields) (KeepsFields before fields)
fields-decides before fields =
    Decides-like (list_all (formed_field (structs_of before)) fields && all_distinct (map (λ f. f.name) fields)) (λ h. record { types = h.0; names = h.1 }) (λ h. (h.types, h.names))
    (Decides-and (list_all (formed_field (structs_of before)) fields) (all_distinct (map (λ f. f.name) fields))
    (each-decides (formed_field (structs_of before)) (λ i f. IsField before f.kind f.count) (λ i f. field-decides before f) fields)
    (differ-decides (map (λ f. f.name) fields)))

-- Locals.
pub append_none : {A : Type 0} (xs : List A) → xs ++ [] ≡ xs
append_none [] = refl
append_none (x ∷ xs) = ap (λ ys. x ∷ ys) (append_none xs)

begin-decides : (scope : CScope) (t : TypeTree) (o : Option ExprTree) → Decides (formed_initial scope t o) (MayBegin scope t o)
begin-decides scope t None = (λ _. tt, λ _. refl)
begin-decides scope t (Some e) = begins-decides scope t e

module _ (before : List ItemTree) where
  local-decides : (known : List ParamTree) (l : LocalTree) → Decides (is_known (structs_of before) l.kind && formed_initial (scope_of before known) l.kind l.initial) (KeepsLocal before known l)
  local-decides known l = Decides-and (is_known (structs_of before) l.kind) (formed_initial (scope_of before known) l.kind l.initial) (known-decides before l.kind) (begin-decides (scope_of before known) l.kind l.initial)

  abbrev Locals : List ParamTree → List LocalTree → Type 0
  Locals known ls = Each (λ i l. KeepsLocal before (own_names known (take i ls)) l) ls

  after_one : (known : List ParamTree) (l : LocalTree) (i : ℕ) (ls : List LocalTree) → own_names (known ++ local_name l ∷ []) (take i ls) ≡ own_names known (take (suc i) (l ∷ ls))
  after_one known l i ls = append_assoc known (local_name l ∷ []) (map local_name (take i ls))

  locals_front : (known : List ParamTree) (l : LocalTree) (ls : List LocalTree) → KeepsLocal before known l × Locals (known ++ local_name l ∷ []) ls → Locals known (l ∷ ls)
  locals_front known l ls h =
      each_front (λ i m. KeepsLocal before (own_names known (take i (l ∷ ls))) m) l ls (subst (λ (names : List ParamTree). KeepsLocal before names l) (sym (append_none known)) h.0)
      (λ i m e. subst (λ (names : List ParamTree). KeepsLocal before names m) (after_one known l i ls) (h.1 i m e))

  locals_back : (known : List ParamTree) (l : LocalTree) (ls : List LocalTree) → Locals known (l ∷ ls) → KeepsLocal before known l × Locals (known ++ local_name l ∷ []) ls
  locals_back known l ls h = (
    subst (λ (names : List ParamTree). KeepsLocal before names l) (append_none known) (h 0 l refl),
    λ i m e. subst (λ (names : List ParamTree). KeepsLocal before names m) (sym (after_one known l i ls)) (h (suc i) m e),
  )

  and_in : (a b c : Bool) → (a && (b && c)) ≡ ((a && b) && c)
  and_in true b c = refl
  and_in false b c = refl

  at_equal : {P : Type 0} (a b : Bool) → a ≡ b → Decides b P → Decides a P
  at_equal a b e d = (λ h. d.0 (sym e ∙ h), λ h. e ∙ d.1 h)

  locals-decides : (known : List ParamTree) (ls : List LocalTree) → Decides (formed_locals (scope_of before known) ls) (Locals known ls)
  locals-decides known [] = (λ _. each_none (λ i l. KeepsLocal before (own_names known (take i [])) l), λ _. refl)
  locals-decides known (l ∷ ls) =
      let rest : Bool = formed_locals (scope_of before (known ++ local_name l ∷ [])) ls in
      at_equal (formed_locals (scope_of before known) (l ∷ ls)) ((is_known (structs_of before) l.kind && formed_initial (scope_of before known) l.kind l.initial) && rest)
      (and_in (is_known (structs_of before) l.kind) (formed_initial (scope_of before known) l.kind l.initial) rest)
      (Decides-like ((is_known (structs_of before) l.kind && formed_initial (scope_of before known) l.kind l.initial) && rest) (locals_front known l ls) (locals_back known l ls)
      (Decides-and (is_known (structs_of before) l.kind && formed_initial (scope_of before known) l.kind l.initial) rest (local-decides known l) (locals-decides (known ++ local_name l ∷ []) ls)))

-- A function.
module _ (before : List ItemTree) (all : List (List ℕ)) (linkage : Linkage) (result : Option TypeTree) (params : List ParamTree) (locals : List LocalTree) (body : Code) where
  abbrev names : List ParamTree
  names = own_names params locals

  abbrev c : Checked
  c = checked before linkage result names body

  names_decided : Decides (formed_names names all) (AllDiffer (map (λ it. it.name) names) × Each (λ i it. IsOwnName all it.name) names)
  names_decided =
      Decides-and (all_distinct (map (λ it. it.name) names)) (list_all (λ it. not (is_among all it.name) && not (is_library it.name)) names) (differ-decides (map (λ it. it.name) names))
      (each-decides (λ it. not (is_among all it.name) && not (is_library it.name)) (λ i it. IsOwnName all it.name) (λ i it. free-decides all it.name) names)

  function-decides : Decides (formed_function before all linkage result params locals body) (KeepsFunction before all linkage result params locals body)
  function-decides =
      Decides-like (formed_function before all linkage result params locals body)
      (λ h. record {
        result_type = h.0;
        params_known = h.1.0;
        names_differ = h.1.1.0.0;
        names_own = h.1.1.0.1;
        locals_kept = h.1.1.1.0;
        labels_differ = h.1.1.1.1.0;
        statements_kept = h.1.1.1.1.1;
      })
      (λ h. (h.result_type, (h.params_known, ((h.names_differ, h.names_own), (h.locals_kept, (h.labels_differ, h.statements_kept))))))
      (Decides-and (is_result result) _ (result-decides result)
      (Decides-and (list_all (λ p. is_known (structs_of before) p.kind) params) _ (each-decides (λ p. is_known (structs_of before) p.kind) (λ i p. IsKnown before p.kind) (λ i p. known-decides before p.kind) params)
      (Decides-and (formed_names names all) _ names_decided
      (Decides-and (formed_locals (scope_of before params) locals) _ (locals-decides before params locals)
      (then-decides (all_distinct (labels_of body)) (formed_code c false body stop) (labels-decide body) (body-decides c))))))

content-decides : (before : List ItemTree) (all : List (List ℕ)) (item : ItemTree) → Decides (formed_content before all item) (KeepsContent before all item)
content-decides before all (struct_item fields name) = fields-decides before fields
content-decides before all (text_item name bytes) = (λ _. tt, λ _. refl)
content-decides before all (function_item linkage result name params locals body) = function-decides before all linkage result params locals body

-- The first item.
field_by : (type : TypeTree) (name : List ℕ) (kind : FieldKind) (own : List ℕ) (count : Option CNumber) → Decides (is_field type name (record { kind = kind; name = own; count = count })) (record { kind = kind; name = own; count = count } ≡ buffer_field type name)
field_by type name (inside of) own count = (λ h. absurd (none (bytes_eq own name) (is_none count) h), λ e. absurd (let k : inside of ≡ plain type = ap (λ (f : FieldTree). f.kind) e in cc k))
  where
    none : (a b : Bool) → (a && (b && false)) ≡ true → ⊥
    none true true h = cc h
    none true false h = cc h
    none false b h = cc h
field_by type name (plain t) own count =
    Decides-like (bytes_eq own name && (is_none count && same_type t type)) to from
    (Decides-and (bytes_eq own name) (is_none count && same_type t type) (bytes_eq-Decides own name) (Decides-and (is_none count) (same_type t type) (none-decides count) (type-decides t type)))
  where
    to : (own ≡ name) × ((count ≡ None) × (t ≡ type)) → record { kind = plain t; name = own; count = count } ≡ buffer_field type name
    to h =
        ap (λ (n : List ℕ). record { kind = plain t; name = n; count = count }) h.0
        ∙ (ap (λ (o : Option CNumber). record { kind = plain t; name = name; count = o }) h.1.0 ∙ ap (λ (u : TypeTree). buffer_field u name) h.1.1)

    from : record { kind = plain t; name = own; count = count } ≡ buffer_field type name → (own ≡ name) × ((count ≡ None) × (t ≡ type))
    from e = (ap (λ (f : FieldTree). f.name) e, (ap (λ (f : FieldTree). f.count) e, (let k : plain t ≡ plain type = ap (λ (f : FieldTree). f.kind) e in cc k)))

is_field-decides : (type : TypeTree) (name : List ℕ) (f : FieldTree) → Decides (is_field type name f) (f ≡ buffer_field type name)
is_field-decides type name f = field_by type name f.kind f.name f.count

abbrev buffer_fields : List (TypeTree × List ℕ) → List FieldTree
buffer_fields ws = map (λ w. buffer_field w.0 w.1) ws

are_fields-decides : (ws : List (TypeTree × List ℕ)) (fs : List FieldTree) → Decides (are_fields ws fs) (fs ≡ buffer_fields ws)
are_fields-decides [] [] = (λ _. refl, λ _. refl)
are_fields-decides [] (f ∷ fs) = (λ h. absurd (cc h), λ h. absurd (cc h))
are_fields-decides (w ∷ ws) [] = (λ h. absurd (cc h), λ h. absurd (cc h))
are_fields-decides (w ∷ ws) (f ∷ fs) =
    Decides-like (is_field w.0 w.1 f && are_fields ws fs) (λ h. ap (λ (g : FieldTree). g ∷ fs) h.0 ∙ ap (λ gs. buffer_field w.0 w.1 ∷ gs) h.1) (λ e. (cc e, cc e))
    (Decides-and (is_field w.0 w.1 f) (are_fields ws fs) (is_field-decides w.0 w.1 f) (are_fields-decides ws fs))

buffer-decides : (item : ItemTree) → Decides (is_io_buffer item) (item ≡ buffer_item)
buffer-decides (text_item name bytes) = (λ h. absurd (cc h), λ h. absurd (cc h))
buffer-decides (function_item linkage result name params locals body) = (λ h. absurd (cc h), λ h. absurd (cc h))
buffer-decides (struct_item fields name) =
    Decides-like (bytes_eq name io_buffer && are_fields io_buffer_fields fields)
    (λ h. ap (struct_item fields) h.0 ∙ ap (λ fs. struct_item fs io_buffer) h.1)
    (λ e. (named e, listed e))
    (Decides-and (bytes_eq name io_buffer) (are_fields io_buffer_fields fields) (bytes_eq-Decides name io_buffer) (are_fields-decides io_buffer_fields fields))
  where
    named : {fs gs : List FieldTree} {n m : List ℕ} → struct_item fs n ≡ struct_item gs m → n ≡ m
    named e = cc e

    listed : {fs gs : List FieldTree} {n m : List ℕ} → struct_item fs n ≡ struct_item gs m → fs ≡ gs
    listed e = cc e

-- What a package asks.
param_same : (a b : ParamTree) → a.kind ≡ b.kind → a.name ≡ b.name → a ≡ b
param_same a b h k = ap (λ (t : TypeTree). record { kind = t; name = a.name }) h ∙ ap (λ (n : List ℕ). record { kind = b.kind; name = n }) k

params-decide : (as_ bs : List ParamTree) → Decides (same_params as_ bs) (as_ ≡ bs)
params-decide [] [] = (λ _. refl, λ _. refl)
params-decide [] (b ∷ bs) = (λ h. absurd (cc h), λ h. absurd (cc h))
params-decide (a ∷ as_) [] = (λ h. absurd (cc h), λ h. absurd (cc h))
params-decide (a ∷ as_) (b ∷ bs) =
    Decides-like (same_type a.kind b.kind && (bytes_eq a.name b.name && same_params as_ bs)) to from
    (Decides-and (same_type a.kind b.kind) (bytes_eq a.name b.name && same_params as_ bs) (type-decides a.kind b.kind)
    (Decides-and (bytes_eq a.name b.name) (same_params as_ bs) (bytes_eq-Decides a.name b.name) (params-decide as_ bs)))
  where
    to : (a.kind ≡ b.kind) × ((a.name ≡ b.name) × (as_ ≡ bs)) → a ∷ as_ ≡ b ∷ bs
    to h = let e = param_same a b h.0 h.1.0 in let f = h.1.1 in cc (e, f)

    from : a ∷ as_ ≡ b ∷ bs → (a.kind ≡ b.kind) × ((a.name ≡ b.name) × (as_ ≡ bs))
    from e = let same : a ≡ b = cc e in (ap (λ (p : ParamTree). p.kind) same, (ap (λ (p : ParamTree). p.name) same, cc e))

results-decide : (a b : Option TypeTree) → Decides (same_result a b) (a ≡ b)
results-decide None None = (λ _. refl, λ _. refl)
results-decide None (Some b) = (λ h. absurd (cc h), λ h. absurd (cc h))
results-decide (Some a) None = (λ h. absurd (cc h), λ h. absurd (cc h))
results-decide (Some a) (Some b) = Decides-like (same_type a b) (λ e. ap Some e) (λ e. cc e) (type-decides a b)

external-decides : (linkage : Linkage) → Decides (is_external linkage) (linkage ≡ External)
external-decides External = (λ _. refl, λ _. refl)
external-decides Static = (λ h. absurd (cc h), λ h. absurd (cc h))
external-decides StaticInline = (λ h. absurd (cc h), λ h. absurd (cc h))

signature-decides : (s : Signature) (item : ItemTree) → item_name item ≡ s.name → Decides (has_signature s item) (IsFunction s item)
signature-decides s (struct_item fields name) called = (λ h. absurd (cc h), λ h. absurd (let e = h.2 in cc e))
signature-decides s (text_item name bytes) called = (λ h. absurd (cc h), λ h. absurd (let e = h.2 in cc e))
signature-decides s (function_item linkage result name params locals body) called =
    Decides-like (is_external linkage && (same_params s.params params && same_result s.result_type result)) to from
    (Decides-and (is_external linkage) (same_params s.params params && same_result s.result_type result) (external-decides linkage)
    (Decides-and (same_params s.params params) (same_result s.result_type result) (params-decide s.params params) (results-decide s.result_type result)))
  where
    to : (linkage ≡ External) × ((s.params ≡ params) × (s.result_type ≡ result)) → IsFunction s (function_item linkage result name params locals body)
    to h = (locals, body, (let a = h.0 in let b = h.1.0 in let d = h.1.1 in cc (a, b, d, called)))

    from : IsFunction s (function_item linkage result name params locals body) → (linkage ≡ External) × ((s.params ≡ params) × (s.result_type ≡ result))
    from h = let e = h.2 in (cc e, (cc e, cc e))

-- A test that is asked of an item with this name alone.
asked-decides : {P : Type 0} (name own : List ℕ) (t : Bool) → (own ≡ name → Decides t P) → Decides (if bytes_eq name own then t else true) (own ≡ name → P)
asked-decides {P} name own t d = by (bytes_eq name own) refl
  where
    by : (b : Bool) → bytes_eq name own ≡ b → Decides (if b then t else true) (own ≡ name → P)
    by true h = let same : own ≡ name = sym ((bytes_eq-Decides name own).0 h) in (λ k _. (d same).0 k, λ k. (d same).1 (k same))
    by false h = (λ _ e. absurd (let same : bytes_eq name own ≡ true = (bytes_eq-Decides name own).1 (sym e) in cc (h, same)), λ _. refl)

struct_item-decides : (item : ItemTree) (name : List ℕ) → item_name item ≡ name → Decides (is_struct item) ((fields : List FieldTree) × (item ≡ struct_item fields name))
struct_item-decides (struct_item fields own) name called = (λ _. (fields, ap (struct_item fields) called), λ _. refl)
struct_item-decides (text_item own bytes) name called = (λ h. absurd (cc h), λ h. absurd (let e = h.1 in cc e))
struct_item-decides (function_item linkage result own params locals body) name called = (λ h. absurd (cc h), λ h. absurd (let e = h.1 in cc e))

surface-decides : (p : Surface) (item : ItemTree) → Decides (meets_surface p item) (MeetsSurface p item)
surface-decides p item =
    Decides-like (meets_surface p item)
    (λ h. record { functions = (λ s has e. h.0 has.0 s has.1 e); structs = (λ it has e. h.1 has.0 it has.1 e) })
    (λ h. ((λ i s e. h.functions s (i, e)), (λ i it e. h.structs it (i, e))))
    (Decides-and (list_all (meets_signature item) (signatures p)) (list_all (meets_struct p item) p.structs)
    (each-decides (meets_signature item) (λ i s. item_name item ≡ s.name → IsFunction s item) (λ i s. asked-decides s.name (item_name item) (has_signature s item) (signature-decides s item)) (signatures p))
    (each-decides (meets_struct p item) (λ i it. item_name item ≡ struct_name p it → (fields : List FieldTree) × (item ≡ struct_item fields (struct_name p it))) (λ i it. asked-decides (struct_name p it) (item_name item) (is_struct item) (struct_item-decides item (struct_name p it))) p.structs))

-- An item.
pub item-decides : (p : Surface) (before : List ItemTree) (all : List (List ℕ)) (item : ItemTree) → Decides (formed_item p before all item) (KeepsItem p before all item)
item-decides p [] all item =
    Decides-like (is_io_buffer item && meets_surface p item) (λ h. record { own = h.0; meets = h.1 }) (λ h. (h.own, h.meets))
    (Decides-and (is_io_buffer item) (meets_surface p item) (buffer-decides item) (surface-decides p item))
item-decides p (x ∷ before) all item =
    Decides-like (free_name (x ∷ before) item && (formed_content (x ∷ before) all item && meets_surface p item))
    (λ h. record { own = (h.0.0, h.0.1, h.1.0); meets = h.1.1 })
    (λ h. ((h.own.0, h.own.1), (h.own.2, h.meets)))
    (Decides-and (free_name (x ∷ before) item) (formed_content (x ∷ before) all item && meets_surface p item) (free-decides (map item_name (x ∷ before)) (item_name item))
    (Decides-and (formed_content (x ∷ before) all item) (meets_surface p item) (content-decides (x ∷ before) all item) (surface-decides p item)))
