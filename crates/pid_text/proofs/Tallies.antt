-- The counts of a page, with one segment more, and once a PES packet has ended.
use Rattle.std.proofs.Common.{◌≡◌, ℕ, ◌+◌, ◌==◌, ◌∙◌, ◌&&◌, inl, inr, Bool, true, false, ◌||◌, cond, if◌then◌else◌, List, [], ◌∷◌, ◌++◌, ap, arith, refl, sym, subst, count_by}
use Rattle.std.proofs.lemmas.Bool.Decides.{eqb_tells, nat_tests}
use Rattle.std.proofs.lemmas.List.Folds.{list_any-append}
use Rattle.std.proofs.lemmas.List.Sums.{sum_by-cons, sum_by_push}
use Rattle.stream_syntax.specs.declared.wire.TheConstants.{CLUT_DEFINITION, OBJECT_DATA, PAGE_COMPOSITION}
use Rattle.pid_text.specs.PidText.{counted}
use Rattle.pid_text.specs.PidUnits.{Head, SubtitleUnit, alone_in, ancillaries, compositions, has_composition, has_page, is_ancillary, is_composition, is_named, is_of_page}
use Rattle.pid_text.specs.Private.Listing.{IsTallied, closed, fresh, is_met, one_more, with_segment}
use Rattle.pid_text.specs.declared.page_tally.PageTally.{PageTally}

-- ---- one segment more

or_false : (b : Bool) → (b || false) ≡ b
or_false true = refl
or_false false = refl

or_assoc : (a b c : Bool) → (a || (b || c)) ≡ ((a || b) || c)
or_assoc true b c = refl
or_assoc false b c = refl

-- a page is met where it was, or where the segment is of it
pub met_more : (page : ℕ) (units : List SubtitleUnit) (heads : List Head) (head : Head)
    → is_met page units (heads ++ head ∷ []) ≡ (is_met page units heads || (head.page == page))
met_more page units heads head =
    ap (λ b. is_named page units || b) (list_any-append (is_of_page page) heads (head ∷ [])
    ∙ ap (λ b. has_page page heads || b) (or_false (head.page == page)))
    ∙ or_assoc (is_named page units) (has_page page heads) (head.page == page)

composed_more : (page : ℕ) (heads : List Head) (head : Head)
    → has_composition page (heads ++ head ∷ []) ≡ (has_composition page heads || is_composition page head)
composed_more page heads head =
    list_any-append (is_composition page) heads (head ∷ [])
    ∙ ap (λ b. has_composition page heads || b) (or_false (is_composition page head))

waiting_more : (page : ℕ) (heads : List Head) (head : Head)
    → count_by (is_ancillary page) (heads ++ head ∷ [])
    ≡ count_by (is_ancillary page) heads + cond (is_ancillary page head) 1 0
waiting_more page heads head = sum_by_push (λ h. cond (is_ancillary page h) 1 0) heads head

-- the counts of another page stay
pub tallied_other : (units : List SubtitleUnit) (heads : List Head) (head : Head) (entry : PageTally)
    → (entry.page ≡ head.page → ⊥) → IsTallied units heads entry → IsTallied units (heads ++ head ∷ []) entry
tallied_other units heads head entry apart is =
    let other : (head.page == entry.page) ≡ false = grind (arith, nat_tests) in record {
      compositions_are = is.compositions_are;
      ancillaries_are = is.ancillaries_are;
      waiting_is =
          is.waiting_is
          ∙ ap counted (sym (waiting_more entry.page heads head
          ∙ ap (λ b. count_by (is_ancillary entry.page) heads
          + cond (b && (head.kind == CLUT_DEFINITION || head.kind == OBJECT_DATA)) 1 0) other
          ∙ omega arith));
      composed_is =
          is.composed_is
          ∙ sym (composed_more entry.page heads head
          ∙ ap (λ b. has_composition entry.page heads || (b && (head.kind == PAGE_COMPOSITION))) other
          ∙ or_false (has_composition entry.page heads));
    }

counted_once : (n : ℕ) → one_more (counted n) ≡ counted (n + 1)
counted_once n = omega arith

counted_both : (m n : ℕ) → counted (counted m + counted n) ≡ counted (m + n)
counted_both m n = omega arith

or_true : (b : Bool) → (b || true) ≡ true
or_true true = refl
or_true false = refl

-- one of three kinds of segments
kinds : (kind : ℕ) (Q : Bool → Bool → Type 0) → Q true false → Q false true → Q false false
    → Q (kind == PAGE_COMPOSITION) (kind == CLUT_DEFINITION || kind == OBJECT_DATA)
kinds kind Q one two other =
    elim (eqb_tells kind 16) [
      | inl page ↦ subst (λ k. Q (k == PAGE_COMPOSITION) (k == CLUT_DEFINITION || k == OBJECT_DATA)) (sym page.1) one
      | inr apart ↦ subst (λ b. Q b (kind == CLUT_DEFINITION || kind == OBJECT_DATA)) (sym apart.0)
          (either (kind == CLUT_DEFINITION || kind == OBJECT_DATA))
    ]
  where
    either : (b : Bool) → Q false b
    either true = two
    either false = other

-- those of the page of the segment count it
pub tallied_same : (units : List SubtitleUnit) (heads : List Head) (head : Head) (entry : PageTally)
    → entry.page ≡ head.page → IsTallied units heads entry
    → IsTallied units (heads ++ head ∷ []) (with_segment head.kind entry)
tallied_same units heads head entry same is =
    kinds head.kind
    (λ a b. count_by (is_ancillary entry.page) (heads ++ head ∷ [])
    ≡ count_by (is_ancillary entry.page) heads + cond b 1 0
    → has_composition entry.page (heads ++ head ∷ []) ≡ (has_composition entry.page heads || a)
    → IsTallied units (heads ++ head ∷ []) (if a then record entry { is_composed = true }
    else if b then record entry { waiting = one_more entry.waiting } else entry))
    (λ waits composed. record {
      compositions_are = is.compositions_are;
      ancillaries_are = is.ancillaries_are;
      waiting_is = is.waiting_is ∙ ap counted (omega (arith, waits));
      composed_is = sym (composed ∙ or_true (has_composition entry.page heads));
    })
    (λ waits composed. record {
      compositions_are = is.compositions_are;
      ancillaries_are = is.ancillaries_are;
      waiting_is =
          ap one_more is.waiting_is ∙ counted_once (count_by (is_ancillary entry.page) heads) ∙ ap counted (sym waits);
      composed_is = is.composed_is ∙ sym (composed ∙ or_false (has_composition entry.page heads));
    })
    (λ waits composed. record {
      compositions_are = is.compositions_are;
      ancillaries_are = is.ancillaries_are;
      waiting_is = is.waiting_is ∙ ap counted (omega (arith, waits));
      composed_is = is.composed_is ∙ sym (composed ∙ or_false (has_composition entry.page heads));
    })
    (waiting_more entry.page heads head
    ∙ ap (λ b. count_by (is_ancillary entry.page) heads
    + cond (b && (head.kind == CLUT_DEFINITION || head.kind == OBJECT_DATA)) 1 0) own)
    (composed_more entry.page heads head
    ∙ ap (λ b. has_composition entry.page heads || (b && (head.kind == PAGE_COMPOSITION))) own)
  where
    own : (head.page == entry.page) ≡ true
    own = grind (arith, nat_tests)

-- a page that was not met has no counts
or_none : (a b : Bool) → (a || b) ≡ false → (a ≡ false) × (b ≡ false)
or_none true b none = absurd cc
or_none false b none = (refl, none)

none_waits : (page : ℕ) (heads : List Head) → has_page page heads ≡ false
    → count_by (is_ancillary page) heads ≡ 0
none_waits page [] none = refl
none_waits page (head ∷ heads) none =
    let both = or_none (head.page == page) (has_page page heads) none in
    sum_by-cons (λ h. cond (is_ancillary page h) 1 0) head heads
    ∙ ap (λ b. cond (b && (head.kind == CLUT_DEFINITION || head.kind == OBJECT_DATA)) 1 0
    + count_by (is_ancillary page) heads) both.0
    ∙ ap (λ n. 0 + n) (none_waits page heads both.1)

none_composed : (page : ℕ) (heads : List Head) → has_page page heads ≡ false → has_composition page heads ≡ false
none_composed page [] none = refl
none_composed page (head ∷ heads) none =
    let both = or_none (head.page == page) (has_page page heads) none in
    ap (λ b. (b && (head.kind == PAGE_COMPOSITION)) || has_composition page heads) both.0
    ∙ none_composed page heads both.1

no_compositions : (page : ℕ) (units : List SubtitleUnit) → is_named page units ≡ false → compositions page units ≡ 0
no_compositions page [] none = refl
no_compositions page (unit ∷ units) none =
    let both = or_none (has_page page unit.heads) (is_named page units) none in
    sum_by-cons (λ (one : SubtitleUnit). cond (has_composition page one.heads) 1 0) unit units
    ∙ ap (λ b. cond b 1 0 + compositions page units) (none_composed page unit.heads both.0)
    ∙ ap (λ n. 0 + n) (no_compositions page units both.1)

no_ancillaries : (page : ℕ) (units : List SubtitleUnit) → is_named page units ≡ false → ancillaries page units ≡ 0
no_ancillaries page [] none = refl
no_ancillaries page (unit ∷ units) none =
    let both = or_none (has_page page unit.heads) (is_named page units) none in
    sum_by-cons (λ (one : SubtitleUnit). alone_in page one.heads) unit units
    ∙ ap (λ b. (if b then 0 else count_by (is_ancillary page) unit.heads) + ancillaries page units)
    (none_composed page unit.heads both.0)
    ∙ ap (λ n. n + ancillaries page units) (none_waits page unit.heads both.0)
    ∙ ap (λ n. 0 + n) (no_ancillaries page units both.1)

pub tallied_fresh : (units : List SubtitleUnit) (heads : List Head) (page : ℕ) → is_met page units heads ≡ false
    → IsTallied units heads (fresh page)
tallied_fresh units heads page unmet =
    let both = or_none (is_named page units) (has_page page heads) unmet in record {
      compositions_are = sym (ap counted (no_compositions page units both.0));
      ancillaries_are = sym (ap counted (no_ancillaries page units both.0));
      waiting_is = sym (ap counted (none_waits page heads both.1));
      composed_is = sym (none_composed page heads both.1);
    }

-- ---- the end of a PES packet

pub named_more : (page : ℕ) (units : List SubtitleUnit) (unit : SubtitleUnit)
    → is_met page (units ++ unit ∷ []) [] ≡ is_met page units unit.heads
named_more page units unit =
    or_false (is_named page (units ++ unit ∷ []))
    ∙ list_any-append (λ (one : SubtitleUnit). has_page page one.heads) units (unit ∷ [])
    ∙ ap (λ b. is_named page units || b) (or_false (has_page page unit.heads))

pub tallied_closed : (units : List SubtitleUnit) (unit : SubtitleUnit) (entry : PageTally)
    → IsTallied units unit.heads entry → IsTallied (units ++ unit ∷ []) [] (closed entry)
tallied_closed units unit entry is = by_composed entry.is_composed refl
  where
    composed : compositions entry.page (units ++ unit ∷ [])
        ≡ compositions entry.page units + cond (has_composition entry.page unit.heads) 1 0
    composed = sum_by_push (λ (one : SubtitleUnit). cond (has_composition entry.page one.heads) 1 0) units unit

    alone : ancillaries entry.page (units ++ unit ∷ []) ≡ ancillaries entry.page units + alone_in entry.page unit.heads
    alone = sum_by_push (λ (one : SubtitleUnit). alone_in entry.page one.heads) units unit

    by_composed : (b : Bool) → b ≡ entry.is_composed
        → IsTallied (units ++ unit ∷ []) [] (if b then record entry {
          compositions = one_more entry.compositions;
          waiting = 0;
          is_composed = false;
        }
        else record entry { ancillaries = counted (entry.ancillaries + entry.waiting); waiting = 0 })
    by_composed true on =
        let has : has_composition entry.page unit.heads ≡ true = sym is.composed_is ∙ sym on in record {
          compositions_are =
              ap one_more is.compositions_are ∙ counted_once (compositions entry.page units)
              ∙ ap counted (sym (composed ∙ ap (λ b. compositions entry.page units + cond b 1 0) has));
          ancillaries_are =
              is.ancillaries_are
              ∙ ap counted
              (sym (alone
              ∙ ap (λ b. ancillaries entry.page units
              + (if b then 0 else count_by (is_ancillary entry.page) unit.heads)) has ∙ omega arith));
          waiting_is = refl;
          composed_is = refl;
        }
    by_composed false off =
        let has : has_composition entry.page unit.heads ≡ false = sym is.composed_is ∙ sym off in record {
          compositions_are =
              is.compositions_are
              ∙ ap counted (sym (composed ∙ ap (λ b. compositions entry.page units + cond b 1 0) has ∙ omega arith));
          ancillaries_are =
              (λ i. counted (is.ancillaries_are i + is.waiting_is i))
              ∙ counted_both (ancillaries entry.page units) (count_by (is_ancillary entry.page) unit.heads)
              ∙ ap counted
              (sym (alone
              ∙ ap (λ b. ancillaries entry.page units
              + (if b then 0 else count_by (is_ancillary entry.page) unit.heads)) has));
          waiting_is = refl;
          composed_is = sym off;
        }
