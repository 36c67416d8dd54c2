-- Two answers of one call, by what its contract says of each.
use Rattle.std.proofs.Common.{◌≡◌, ◌≢◌, ◌⊎◌, inl, inr, ◌<◌, ◌≤◌, ℕ, ℤ, List}
use Rattle.std.proofs.Common.{◌++◌}
use Rattle.std.proofs.Common.{Option, Some, None, MatchOption, length, drop, refl, sym, ap}
use Rattle.std.proofs.Common.{subst, ◌∙◌}
use Rattle.std.proofs.Common.{to_z, of_z, to_z-of_z, w32}
use mir.Val.{SFits}
use Rattle.std.proofs.lemmas.Bool.{cases_lt}
use Rattle.nj_c.specs.declared.status.Status.{Status}
use Rattle.nj_c.specs.declared.status.Status.TheVariants.{Done, Nothing, NotLoaded, BadNumber, NotOpen}
use Rattle.nj_c.specs.declared.status.Status.TheVariants.{BadLog}
use Rattle.nj_c.specs.Asking.{IfNumber, GivesItem, GivesText, GivesTextOrNot}
use Rattle.nj_c.specs.OneAnswer.{IsGiven, SameAnswer, SameBuffer, InMemory}
use Rattle.nj_c.specs.Statuses.{code_of}

-- ---- statuses that are returned in pairs

pub passed : {one other : ℤ} (P : ℤ → ℤ → Type 0) → SFits w32 one → SFits w32 other → P one other
    → P (to_z w32 (of_z w32 one)) (to_z w32 (of_z w32 other))
passed {one = one} {other = other} P fits fits2 is =
    subst (λ r. P r (to_z w32 (of_z w32 other))) (sym (to_z-of_z fits))
    (subst (P one) (sym (to_z-of_z fits2)) is)

-- ---- what is refused

-- a status with which a call returns nothing
abbrev pub IsRefusal : Status → Type 0
IsRefusal status = IsGiven (code_of status) → ⊥

pub not-open : IsRefusal NotOpen
not-open (inl is) = cc
not-open (inr is) = cc

pub not-loaded : IsRefusal NotLoaded
not-loaded (inl is) = cc
not-loaded (inr is) = cc

pub bad-number : IsRefusal BadNumber
bad-number (inl is) = cc
bad-number (inr is) = cc

pub nothing : IsRefusal Nothing
nothing (inl is) = cc
nothing (inr is) = cc

pub bad-log : IsRefusal BadLog
bad-log (inl is) = cc
bad-log (inr is) = cc

-- both calls were refused alike
abbrev pub Refuses : (one other : ℤ) → Type 0 → Type 0
Refuses one other Same = (status : Status) → IsRefusal status → one ≡ code_of status → other ≡ code_of status
    → Same

pub refused : (one other : ℤ) (Same : Type 0) → Refuses one other (SameAnswer one other Same)
refused one other Same status gives_nothing is also = record {
  status = is ∙ sym also;
  given = λ given. absurd (gives_nothing (subst IsGiven is given));
}

pub refused-buffer : {A : Type 0} (one other : ℤ) (before before2 after after2 : List A) (needed needed2 : ℕ)
    → before ≡ before2
    → (one ≢ code_of Done → after ≡ before) → (other ≢ code_of Done → after2 ≡ before2)
    → Refuses one other (SameBuffer one other after after2 needed needed2)
refused-buffer one other before before2 after after2 needed needed2 same kept kept2 status gives_nothing is
    also =
    record {
      answer = refused one other (needed ≡ needed2) status gives_nothing is also;
      buffer = kept (λ done. gives_nothing (subst IsGiven is (inl done))) ∙ same
          ∙ sym (kept2 (λ done. gives_nothing (subst IsGiven also (inl done))));
    }

-- ---- by what an answer is about

module _ {one other : ℤ} {Same : Type 0} (refuse : Refuses one other Same) where
  pub at-option : {A : Type 0} (item : Option A) (status : Status) → IsRefusal status → (D E : A → Type 0)
      → ((x : A) → item ≡ Some x → D x → E x → Same)
      → MatchOption item (one ≡ code_of status) D → MatchOption item (other ≡ code_of status) E → Same
  at-option None status gives_nothing D E both is also = refuse status gives_nothing is also
  at-option (Some x) status gives_nothing D E both is also = both x refl is also

  pub at-number : (number count : ℕ) (D E : Type 0) → (number < count → D → E → Same)
      → IfNumber number count one D → IfNumber number count other E → Same
  at-number number count D E both is also = by (cases_lt number count)
    where
      by : (number < count) ⊎ (count ≤ number) → Same
      by (inl below) = both below (is.is below) (also.is below)
      by (inr above) = refuse BadNumber bad-number (is.is_not above) (also.is_not above)

-- ---- values

pub done-agree : (one other : ℤ) (Same : Type 0) → one ≡ code_of Done → other ≡ code_of Done → Same
    → SameAnswer one other Same
done-agree one other Same is also same = record { status = is ∙ sym also; given = λ _. same }

pub values-agree : {A : Type 0} (one other : ℤ) (value x y : A) → (one ≡ code_of Done) × (x ≡ value)
    → (other ≡ code_of Done) × (y ≡ value) → SameAnswer one other (x ≡ y)
values-agree one other value x y is also = done-agree one other (x ≡ y) is.0 also.0 (is.1 ∙ sym also.1)

pub items-agree : {A : Type 0} (one other : ℤ) (item : Option A) (D E : A → Type 0) (Same : Type 0)
    → ((x : A) → item ≡ Some x → D x → E x → Same)
    → GivesItem item one D → GivesItem item other E → SameAnswer one other Same
items-agree one other item D E Same both is also =
    at-option (refused one other Same) item Nothing nothing (λ x. (one ≡ code_of Done) × D x)
    (λ x. (other ≡ code_of Done) × E x)
    (λ x there a b. done-agree one other Same a.0 b.0 (both x there a.1 b.1)) is also

-- ---- texts

pub texts-agree : (one other : ℤ) (text before before2 after after2 : List ℕ) (needed needed2 : ℕ)
    → before ≡ before2
    → GivesText text before after needed one → GivesText text before2 after2 needed2 other
    → SameBuffer one other after after2 needed needed2
texts-agree one other text before before2 after after2 needed needed2 same is also =
    by (cases_lt (length before) (length text))
  where
    by : (length before < length text) ⊎ (length text ≤ length before)
        → SameBuffer one other after after2 needed needed2
    by (inl long) =
        let long2 : length before2 < length text = subst (λ b. length b < length text) same long in
        let a = is.short long in let b = also.short long2 in record {
          answer = record { status = a.0 ∙ sym b.0; given = λ _. is.length_is ∙ sym also.length_is };
          buffer = a.1 ∙ same ∙ sym b.1;
        }
    by (inr fits) =
        let fits2 : length text ≤ length before2 = subst (λ b. length text ≤ length b) same fits in
        let a = is.fits fits in let b = also.fits fits2 in record {
          answer = record { status = a.0 ∙ sym b.0; given = λ _. is.length_is ∙ sym also.length_is };
          buffer = a.1 ∙ ap (λ old. text ++ drop (length text) old) same ∙ sym b.1;
        }

pub texts-agree-in-memory : (one other : ℤ) (text before before2 after after2 : List ℕ)
    (old old2 needed needed2 : ℕ)
    → before ≡ before2
    → GivesTextOrNot text before after old needed one → GivesTextOrNot text before2 after2 old2 needed2 other
    → InMemory one other (SameBuffer one other after after2 needed needed2)
texts-agree-in-memory one other text before before2 after after2 old old2 needed needed2 same (inl is)
    (inl also) _ _ =
    texts-agree one other text before before2 after after2 needed needed2 same is also
texts-agree-in-memory one other text before before2 after after2 old old2 needed needed2 same (inr is) also
    none _ =
    absurd (none is.0)
texts-agree-in-memory one other text before before2 after after2 old old2 needed needed2 same (inl is)
    (inr also) _ none =
    absurd (none also.0)
