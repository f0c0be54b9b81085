-- The numbers of a program's functions, and the names of a text that has the unit form.
use Rattle.std.proofs.Common.{◌≡◌, ℕ, suc, ◌+◌, ◌<◌, Bool, true, false, if◌then◌else◌, List, [], ◌∷◌, ◌++◌, length, Option, Some, None, position, refl, sym, ap, ◌∙◌, subst, arith, lt-ltb, le-ltb}
use Rattle.std.specs.Prelude.{reverse, bytes_eq}
use Rattle.std.specs.Option.{option_or}
use Rattle.std.proofs.lemmas.List.{length-append, length-reverse, reverse-append, reverse-reverse}
use Rattle.wf_text.specs.Surface.{Surface}
use Rattle.c_text.specs.CTree.{ItemTree}
use Rattle.c_text.proofs.Names.{bytes_eq-true}
use Rattle.c_meaning.specs.CTypes.{Function, functions_of}
use Rattle.c_meaning.specs.CCall.{program_of}
use Rattle.c_meaning.specs.UnitForm.{HasUnitForm}
use Rattle.c_form_exprs.proofs.TableLemmas.{place_end}
use Rattle.c_step_exprs.specs.Resolving.{function_number}
use Rattle.c_step_load_exprs.specs.Knowing.{AreAlike}
use Rattle.c_step_load_stmts.specs.Bodies.{below}
use Rattle.c_step_program.specs.Programs.{AreApart}
use Rattle.c_step_program.proofs.Apart.{functions_apart}
use Rattle.c_step_program.proofs.Coded.{none_in}
use Rattle.c_step_program.proofs.Scopes.{Alike, alike_items}

-- The number of a function, which is counted from the other end.
or_none : (o : Option ℕ) → option_or o None ≡ o
or_none None = refl
or_none (Some k) = refl

abbrev place_of : List ℕ → List Function → Option ℕ
place_of name fs = position (λ (f : Function). bytes_eq f.name name) fs

one_before : (fs : List Function) (f : Function) (name : List ℕ) (b : Bool) → bytes_eq f.name name ≡ b → function_number fs f.name ≡ None → function_number fs name ≡ place_of name (reverse fs) → (if b then Some (length fs) else function_number fs name) ≡ option_or (place_of name (reverse fs)) (if b then Some (length (reverse fs)) else None)
one_before fs f name true e none later =
    let same : f.name ≡ name = bytes_eq-true f.name name e in
    let gone : place_of name (reverse fs) ≡ None = sym later ∙ subst (λ (n : List ℕ). function_number fs n ≡ None) same none in
    ap Some (sym (length-reverse fs)) ∙ ap (λ (o : Option ℕ). option_or o (Some (length (reverse fs)))) (sym gone)
one_before fs f name false e none later = later ∙ sym (or_none (place_of name (reverse fs)))

numbers_alike : (fs : List Function) → AreApart fs → (name : List ℕ) → function_number fs name ≡ place_of name (reverse fs)
numbers_alike [] h name = refl
numbers_alike (f ∷ fs) h name =
    one_before fs f name (bytes_eq f.name name) refl h.0 (numbers_alike fs h.1 name)
    ∙ sym (ap (place_of name) (reverse-append (f ∷ []) fs) ∙ place_end (λ (g : Function). bytes_eq g.name name) (reverse fs) f)

pub items_alike : (p : Surface) (items : List ItemTree) → HasUnitForm p items → AreAlike items
items_alike p items h =
    let a : Alike items = alike_items p items h in
    record {
      structs = a.structs;
      functions = a.functions;
      numbers = λ name. numbers_alike (reverse (functions_of items)) (functions_apart p items h) name ∙ ap (place_of name) (reverse-reverse (functions_of items));
    }

pub items_apart : (p : Surface) (items : List ItemTree) → HasUnitForm p items → AreApart (program_of items).functions
items_apart p items h = functions_apart p items h

-- A number is below that of the functions.
within_if : (b : Bool) (n k : ℕ) (o : Option ℕ) → (if b then Some n else o) ≡ Some k → (o ≡ Some k → k < n) → k < suc n
within_if true n k o e later = let same : n ≡ k = cc (e) in omega (arith, same)
within_if false n k o e later = let within : k < n = later e in omega (arith, within)

number_within : (fs : List Function) (name : List ℕ) (k : ℕ) → function_number fs name ≡ Some k → k < length fs
number_within [] name k e = absurd (cc (e))
number_within (f ∷ fs) name k e = within_if (bytes_eq f.name name) (length fs) k (function_number fs name) e (number_within fs name k)

stays_below : (n : ℕ) (o : Option ℕ) → ((k : ℕ) → o ≡ Some k → k < n) → below n o ≡ o
stays_below n None h = refl
stays_below n (Some k) h = rw (lt-ltb k n (h k refl)) refl

-- The functions before one have smaller numbers than itself and those after it.
pub callable_below : (others callable : List Function) (name : List ℕ) → AreApart (others ++ callable) → below (length callable) (function_number (others ++ callable) name) ≡ function_number callable name
callable_below [] callable name h = stays_below (length callable) (function_number callable name) (number_within callable name)
callable_below (f ∷ others) callable name h = by (bytes_eq f.name name) refl (callable_below others callable name h.1)
  where
    by : (b : Bool) → bytes_eq f.name name ≡ b → below (length callable) (function_number (others ++ callable) name) ≡ function_number callable name → below (length callable) (function_number (f ∷ others ++ callable) name) ≡ function_number callable name
    by true t later =
        let same : f.name ≡ name = bytes_eq-true f.name name t in
        let gone : function_number callable name ≡ None = subst (λ (n : List ℕ). function_number callable n ≡ None) same (none_in others callable f.name h.0) in
        let long : length (others ++ callable) ≡ length others + length callable = length-append others callable in
        ap (λ (b : Bool). below (length callable) (if b then Some (length (others ++ callable)) else function_number (others ++ callable) name)) t
        ∙ (ap (λ (b : Bool). if b then Some (length (others ++ callable)) else None) (le-ltb (length (others ++ callable)) (length callable) (omega (arith, long))) ∙ sym gone)
    by false t later = ap (λ (b : Bool). below (length callable) (if b then Some (length (others ++ callable)) else function_number (others ++ callable) name)) t ∙ later
