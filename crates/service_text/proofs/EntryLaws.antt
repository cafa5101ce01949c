-- The services of entries, descriptors and streams, one after the other.
use Rattle.std.proofs.Common.{◌≡◌, ◌∙◌, ℕ, ◌+◌, ◌≤◌, ◌<◌, List, [], ◌∷◌, ◌++◌, length, drop, refl, sym, ap, subst, append-nil, append_assoc, arith}
use Rattle.service_text.specs.Listing.{IsListing, ListsMore, ServiceListing}
use Rattle.service_text.specs.Services.{services_in}
use Rattle.service_text.specs.Private.Entries.{HaveListed, first_service}
use Rattle.service_text.specs.declared.service.SubtitleService.{SubtitleService}

pub lists_none : (list : ServiceListing) → ListsMore list list []
lists_none list = record {
  listed = λ services is.
      subst (λ (l : List SubtitleService). IsListing list l) (sym (append-nil services)) is;
}

pub lists_both : (old mid new : ServiceListing) (first later : List SubtitleService) → ListsMore old mid first
    → ListsMore mid new later → ListsMore old new (first ++ later)
lists_both old mid new first later one other = record {
  listed = λ services is.
      subst (λ (l : List SubtitleService). IsListing new l) (append_assoc services first later)
      (other.listed (services ++ first) (one.listed services is));
}

-- ---- a walk

pub none_walked : (list : ServiceListing) (all : List SubtitleService) → HaveListed list list all all
none_walked list all = record { passed = []; lists = lists_none list; whole = refl }

pub more_walked : (old mid new : ServiceListing) (all left more rest : List SubtitleService)
    → HaveListed old mid all left → ListsMore mid new more → left ≡ more ++ rest → HaveListed old new all rest
more_walked old mid new all left more rest have lists is = record {
  passed = have.passed ++ more;
  lists = lists_both old mid new have.passed more have.lists lists;
  whole = have.whole ∙ ap (λ (l : List SubtitleService). have.passed ++ l) is
      ∙ sym (append_assoc have.passed more rest);
}

pub all_walked : (old new : ServiceListing) (all left : List SubtitleService) → HaveListed old new all left
    → left ≡ [] → ListsMore old new all
all_walked old new all left have none =
    subst (λ (l : List SubtitleService). ListsMore old new l)
    (sym (have.whole ∙ ap (λ (l : List SubtitleService). have.passed ++ l) none ∙ append-nil have.passed))
    have.lists

-- ---- entries

pub entry_next : (number pid : ℕ) (bytes : List ℕ) → 8 ≤ length bytes
    → services_in number pid bytes ≡ first_service number pid bytes ∷ services_in number pid (drop 8 bytes)
entry_next number pid (a ∷ b ∷ c ∷ kind ∷ d ∷ e ∷ f ∷ g ∷ rest) long = refl
entry_next number pid [] long = absurd (omega (arith, long))
entry_next number pid (a ∷ []) long = absurd (omega (arith, long))
entry_next number pid (a ∷ b ∷ []) long = absurd (omega (arith, long))
entry_next number pid (a ∷ b ∷ c ∷ []) long = absurd (omega (arith, long))
entry_next number pid (a ∷ b ∷ c ∷ d ∷ []) long = absurd (omega (arith, long))
entry_next number pid (a ∷ b ∷ c ∷ d ∷ e ∷ []) long = absurd (omega (arith, long))
entry_next number pid (a ∷ b ∷ c ∷ d ∷ e ∷ f ∷ []) long = absurd (omega (arith, long))
entry_next number pid (a ∷ b ∷ c ∷ d ∷ e ∷ f ∷ g ∷ []) long = absurd (omega (arith, long))

pub entry_short : (number pid : ℕ) (bytes : List ℕ) → length bytes < 8 → services_in number pid bytes ≡ []
entry_short number pid [] short = refl
entry_short number pid (a ∷ []) short = refl
entry_short number pid (a ∷ b ∷ []) short = refl
entry_short number pid (a ∷ b ∷ c ∷ []) short = refl
entry_short number pid (a ∷ b ∷ c ∷ d ∷ []) short = refl
entry_short number pid (a ∷ b ∷ c ∷ d ∷ e ∷ []) short = refl
entry_short number pid (a ∷ b ∷ c ∷ d ∷ e ∷ f ∷ []) short = refl
entry_short number pid (a ∷ b ∷ c ∷ d ∷ e ∷ f ∷ g ∷ []) short = refl
entry_short number pid (a ∷ b ∷ c ∷ d ∷ e ∷ f ∷ g ∷ h ∷ rest) short = absurd (omega (arith, short))
