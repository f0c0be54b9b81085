-- The public functions of a package are external functions of its text.
use Rattle.std.proofs.Common.{◌≡◌, inl, inr, ℕ, zero, suc, Bool, true, false, List, [], ◌∷◌, Option, Some, None, refl, sym, ap, ◌∙◌}
use Rattle.std.specs.Prelude.{if◌then◌else◌, bytes_eq}
use Rattle.std.proofs.lemmas.Slice.Eq.{bytes_eq-Decides}
use Rattle.c_text.specs.declared.kinds.Linkage.{Linkage}
use Rattle.c_text.specs.declared.kinds.Linkage.TheVariants.{External}
use Rattle.c_text.specs.CTree.{TypeTree, ParamTree, LocalTree, Code, ItemTree, struct_item, text_item, function_item}
use Rattle.c_meaning.specs.CTypes.{Function, functions_of, function_named}
use Rattle.c_meaning.specs.CCall.{program_of}
use Rattle.c_meaning.specs.UnitForm.{signatures}
use Rattle.c_form_laws.specs.Places.{At, Has}
use Rattle.c_form_laws.proofs.BreakLaws.{form_is_kept}
use Rattle.c_step_program.specs.Programs.{no_code}
use Rattle.c_step_laws.specs.Callees.{IsIn, Placed, placed, last_named}
use Rattle.c_step_laws.specs.CallChains.{PublicAreExternal}
use Rattle.c_form_laws.proofs.NameLaws.{Is}
use Rattle.c_step_laws.proofs.Placing.{item_of, is_item, number_of_named}
use Rattle.c_step_laws.proofs.ChainLaws.{found, not_found}

has_one : {A : Type 0} (x : A) (xs : List A) → IsIn x xs → Has xs x
has_one x [] h = absurd h
has_one x (y ∷ ys) (inl e) = (0, ap Some (sym e))
has_one x (y ∷ ys) (inr h) = let k = has_one x ys h in (suc k.0, k.1)

-- A function that is an item is found by its name.
found_or : (b : Bool) (f : Function) (o : Option Function) → Is o → Is (if b then Some f else o)
found_or true f o h = (f, refl)
found_or false f o h = h

same_name : (name : List ℕ) → bytes_eq name name ≡ true
same_name name = (bytes_eq-Decides name name).1 refl

named_there : (items : List ItemTree) (i : ℕ) (linkage : Linkage) (type : Option TypeTree) (name : List ℕ) (params : List ParamTree) (locals : List LocalTree) (body : Code) → At items i (function_item linkage type name params locals body) → Is (function_named (functions_of items) name)
named_there [] i linkage type name params locals body e = absurd (cc e)
named_there (struct_item fields n ∷ items) zero linkage type name params locals body e = absurd (cc e)
named_there (text_item n bytes ∷ items) zero linkage type name params locals body e = absurd (cc e)
named_there (function_item l t n ps ls b ∷ items) zero linkage type name params locals body e =
    let is : n ≡ name = cc e in
    let same : bytes_eq n name ≡ true = ap (λ (x : List ℕ). bytes_eq x name) is ∙ same_name name in
    let f : Function = record { linkage = l; result_type = t; name = n; params = ps; locals = ls; body = b } in
    (f, ap (λ (x : Bool). if x then Some f else function_named (functions_of items) name) same)
named_there (struct_item fields n ∷ items) (suc i) linkage type name params locals body e = named_there items i linkage type name params locals body e
named_there (text_item n bytes ∷ items) (suc i) linkage type name params locals body e = named_there items i linkage type name params locals body e
named_there (function_item l t n ps ls b ∷ items) (suc i) linkage type name params locals body e =
    found_or (bytes_eq n name) _ (function_named (functions_of items) name) (named_there items i linkage type name params locals body e)

-- What is found has the name.
its_name : (fs : List Function) (name : List ℕ) (g : Placed) → last_named fs name ≡ Some g → g.function.name ≡ name
its_name [] name g e = absurd (cc e)
its_name (f ∷ fs) name g e = by (bytes_eq f.name name) refl e (its_name fs name g)
  where
    by : (b : Bool) → bytes_eq f.name name ≡ b → (if b then Some (placed f fs) else last_named fs name) ≡ Some g → (last_named fs name ≡ Some g → g.function.name ≡ name) → g.function.name ≡ name
    by true h e more =
        let is : placed f fs ≡ g = cc e in
        ap (λ (p : Placed). p.function.name) (sym is) ∙ (bytes_eq-Decides f.name name).0 h
    by false h e more = more e

pub public_external : PublicAreExternal
public_external surface items form s stands = by (last_named (program_of items).functions s.name) refl
  where
    by : (o : Option Placed) → last_named (program_of items).functions s.name ≡ o → (f : Placed) × (last_named (program_of items).functions s.name ≡ Some f) × (f.function.linkage ≡ External)
    by None e =
        let kept = (form_is_kept surface items).1 form in
        let it = kept.whole.functions s (has_one s (signatures surface) stands) in
        let there : At items it.1.0 (function_item External s.result_type s.name s.params it.2.0 it.2.1) = it.1.1 ∙ ap Some it.2.2 in
        let named = named_there items it.1.0 External s.result_type s.name s.params it.2.0 it.2.1 there in
        let number = number_of_named (functions_of items) s.name named.0 named.1 in
        let none = not_found no_code (program_of items).functions s.name e in
        let some = number.1 in
        absurd (cc (none, some))
    by (Some f) e =
        let kept = (form_is_kept surface items).1 form in
        let place = found no_code (program_of items).functions s.name f e in
        let it = is_item items place.after f.function f.before place.stands in
        let meets = (kept.each it.i (item_of f.function) it.there).meets in
        let one = meets.functions s (has_one s (signatures surface) stands) (its_name (program_of items).functions s.name f e) in
        let is = one.2 in
        (f, e, cc is)
