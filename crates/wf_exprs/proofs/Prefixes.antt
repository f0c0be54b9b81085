-- What begins with a word of the compiler's own and goes on with a name of the source is a name of C.
use Rattle.std.proofs.Common.{◌≡◌, ◌&&◌, ℕ, zero, suc, Bool, true, false, List, [], ◌∷◌, ◌++◌, Some, refl, sym, ◌∙◌, ap, codes}
use Rattle.std.specs.Prelude.{slice_get}
use Rattle.std.specs.List.{list_all}
use Rattle.c_text.specs.CSpelling.{is_word_byte, is_reserved}
use Rattle.std.specs.Prelude.{decimal}
use Rattle.std.specs.Fmt.{digits}
use Rattle.wf_base.specs.declared.widths.Width.{Width}
use Rattle.wf_base.specs.declared.widths.Width.TheVariants.{W8, W16, W32, W64}
use Rattle.wf_base.specs.BaseTable.{bits_of}
use Rattle.c_text.specs.CGrammar.{IsName}

pub both_left : (a b : Bool) → (a && b) ≡ true → a ≡ true
both_left true b h = refl
both_left false b h = absurd (cc h)

pub both_right : (a b : Bool) → (a && b) ≡ true → b ≡ true
both_right true b h = h
both_right false b h = absurd (cc h)

pub list_all-at : {A : Type 0} (p : A → Bool) (xs : List A) (n : ℕ) (x : A) → list_all p xs ≡ true → slice_get xs n ≡ Some x → p x ≡ true
list_all-at p [] n x h k = absurd (cc k)
list_all-at p (y ∷ ys) zero x h k = let e : y ≡ x = cc k in ap p (sym e) ∙ both_left (p y) (list_all p ys) h
list_all-at p (y ∷ ys) (suc n) x h k = list_all-at p ys n x (both_right (p y) (list_all p ys) h) k

pub v_name : (name : List ℕ) → list_all is_word_byte name ≡ true → IsName (codes "v_" ++ name)
unfolding is_reserved
v_name name h = ap (λ x. x && true) h

pub vp_name : (name : List ℕ) → list_all is_word_byte name ≡ true → IsName (codes "vp_" ++ name)
unfolding is_reserved
vp_name name h = ap (λ x. x && true) h

pub vl_name : (name : List ℕ) → list_all is_word_byte name ≡ true → IsName (codes "vl_" ++ name)
unfolding is_reserved
vl_name name h = ap (λ x. x && true) h

pub a_name : (name : List ℕ) → list_all is_word_byte name ≡ true → IsName (codes "a_" ++ name)
unfolding is_reserved
a_name name h = ap (λ x. x && true) h

pub ap_name : (name : List ℕ) → list_all is_word_byte name ≡ true → IsName (codes "ap_" ++ name)
unfolding is_reserved
ap_name name h = ap (λ x. x && true) h

pub al_name : (name : List ℕ) → list_all is_word_byte name ≡ true → IsName (codes "al_" ++ name)
unfolding is_reserved
al_name name h = ap (λ x. x && true) h

pub p_name : (name : List ℕ) → list_all is_word_byte name ≡ true → IsName (codes "p_" ++ name)
unfolding is_reserved
p_name name h = ap (λ x. x && true) h

pub e_name : (name : List ℕ) → list_all is_word_byte name ≡ true → IsName (codes "e_" ++ name)
unfolding is_reserved
e_name name h = ap (λ x. x && true) h

pub b_name : (name : List ℕ) → list_all is_word_byte name ≡ true → IsName (codes "b_" ++ name)
unfolding is_reserved
b_name name h = ap (λ x. x && true) h

pub f_name : (name : List ℕ) → list_all is_word_byte name ≡ true → IsName (codes "f_" ++ name)
unfolding is_reserved
f_name name h = ap (λ x. x && true) h

pub r_name : (name : List ℕ) → list_all is_word_byte name ≡ true → IsName (codes "r_" ++ name)
unfolding is_reserved
r_name name h = ap (λ x. x && true) h

pub h_name : (name : List ℕ) → list_all is_word_byte name ≡ true → IsName (codes "h_" ++ name)
unfolding is_reserved
h_name name h = ap (λ x. x && true) h

pub n_name : (name : List ℕ) → list_all is_word_byte name ≡ true → IsName (codes "n_" ++ name)
unfolding is_reserved
n_name name h = ap (λ x. x && true) h

pub s_name : (name : List ℕ) → list_all is_word_byte name ≡ true → IsName (codes "s_" ++ name)
unfolding is_reserved
s_name name h = ap (λ x. x && true) h

pub plus_name : (w : Width) → IsName (codes "sat_plus_u" ++ decimal (bits_of w))
unfolding is_reserved digits
plus_name W8 = refl
plus_name W16 = refl
plus_name W32 = refl
plus_name W64 = refl

pub minus_name : (w : Width) → IsName (codes "sat_minus_u" ++ decimal (bits_of w))
unfolding is_reserved digits
minus_name W8 = refl
minus_name W16 = refl
minus_name W32 = refl
minus_name W64 = refl
