-- What is listed of the pages of a PID, with one segment more, and once a PES packet has ended.
use Rattle.std.proofs.Common.{◌≡◌, ℕ, suc, ◌<◌, ◌≤◌, ◌==◌, ◌∙◌, ◌⊎◌, inl, inr, nat_lt, Bool, true, false, ◌||◌, List, [], ◌∷◌, ◌++◌, length, map, take, ap, arith, refl, sym, subst}
use Rattle.std.specs.List.{AllByRecursion}
use Rattle.std.proofs.lemmas.Bool.Decides.{eqb_tells, leb_tells, nat_tests}
use Rattle.std.proofs.lemmas.List.{length-take, length-map, take-map, take_all, take-append-le}
use Rattle.pid_text.specs.PidText.{AreRising, AreTold, IsLeftOut, is_in}
use Rattle.pid_text.specs.PidUnits.{Head, SubtitleUnit, is_named}
use Rattle.pid_text.specs.Private.Listing.{IsListing, IsPassedOver, IsTallied, PageListing, closed, fresh, is_met, noted, pages_of, with_segment}
use Rattle.pid_text.specs.declared.page_tally.PageTally.{PageTally}
use Rattle.pid_text.proofs.ListedPages.{all_in, all_map, all_of_map, all_take, all_weaker, closed_page, higher_than_first, in_take, noted_all, noted_by_first, noted_is_in, noted_last, noted_length, noted_rising, rising_take, some_dropped}
use Rattle.pid_text.proofs.Tallies.{met_more, named_more, tallied_closed, tallied_fresh, tallied_other, tallied_same}

-- no page of no segment
pub nothing_listed : IsListing [] [] (record { entries = []; more = false })
nothing_listed = record {
  rising = tt;
  few = omega arith;
  tallied = tt;
  met = tt;
  all = λ _ page over. absurd (none over.met);
  some = λ more. absurd (none more);
  full = λ more. absurd (none more);
  lowest = λ page over. tt;
}
  where
    none : false ≡ true → ⊥
    none is = cc

-- ---- one segment more

module _ (units : List SubtitleUnit) (heads : List Head) (head : Head) where
  -- the entries of other pages
  others : (entries : List PageTally) → AllByRecursion (λ entry. entry.page ≡ head.page → ⊥) entries
      → AllByRecursion (IsTallied units heads) entries
      → AllByRecursion (IsTallied units (heads ++ head ∷ [])) entries
  others [] apart each = tt
  others (entry ∷ entries) apart each =
      (tallied_other units heads head entry apart.0 each.0, others entries apart.1 each.1)

  above : (low : ℕ) → head.page ≤ low → (entries : List PageTally)
      → AllByRecursion (λ page. low < page) (pages_of entries)
      → AllByRecursion (λ entry. entry.page ≡ head.page → ⊥) entries
  above low under entries each =
      all_weaker (λ (entry : PageTally). low < entry.page) (λ entry. entry.page ≡ head.page → ⊥) entries
      (λ entry high same. omega (arith, high, same, under))
      (all_of_map (λ page. low < page) (λ (entry : PageTally). entry.page) entries each)

  -- all entries, where the page has one, or has not been met
  all_tallied : (entries : List PageTally) → AreRising (pages_of entries)
      → AllByRecursion (IsTallied units heads) entries
      → (is_in head.page (pages_of entries) ≡ true) ⊎ (is_met head.page units heads ≡ false)
      → AllByRecursion (IsTallied units (heads ++ head ∷ [])) (noted head entries)
  all_tallied [] rising each (inl is) = absurd cc
  all_tallied [] rising each (inr unmet) =
      unfold noted in
      (tallied_same units heads head (fresh head.page) refl (tallied_fresh units heads head.page unmet), tt)
  all_tallied (entry ∷ entries) rising each which =
      noted_by_first head entry entries (AllByRecursion (IsTallied units (heads ++ head ∷ [])))
      (λ low. (
        tallied_other units heads head entry (λ same. omega (arith, low, same)) each.0,
        all_tallied entries rising.1 each.1 (behind low which),
      ))
      (λ same. (
        tallied_same units heads head entry same each.0,
        others entries (above entry.page (omega (arith, same)) entries rising.0) each.1,
      ))
      (λ high. (
        tallied_same units heads head (fresh head.page) refl (tallied_fresh units heads head.page (unmet high which)),
        (
          tallied_other units heads head entry (λ same. omega (arith, high, same)) each.0,
          others entries (above entry.page (omega (arith, high)) entries rising.0) each.1,
        ),
      ))
    where
      behind : entry.page < head.page
          → (is_in head.page (pages_of (entry ∷ entries)) ≡ true) ⊎ (is_met head.page units heads ≡ false)
          → (is_in head.page (pages_of entries) ≡ true) ⊎ (is_met head.page units heads ≡ false)
      behind low (inl is) =
          inl (let apart : (entry.page == head.page) ≡ false = grind (arith, nat_tests) in grind (arith, nat_tests))
      behind low (inr unmet) = inr unmet

      unmet : head.page < entry.page
          → (is_in head.page (pages_of (entry ∷ entries)) ≡ true) ⊎ (is_met head.page units heads ≡ false)
          → is_met head.page units heads ≡ false
      unmet high (inl is) =
          let higher : AllByRecursion (λ page. head.page < page) (pages_of (entry ∷ entries)) = (
            high,
            all_weaker (λ page. entry.page < page) (λ page. head.page < page) (pages_of entries)
                (λ page over. omega (arith, over, high)) rising.0,
          ) in
          let wrong : head.page < head.page =
          all_in (λ page. head.page < page) head.page (pages_of (entry ∷ entries)) higher is in
          absurd (omega (arith, wrong))
      unmet high (inr none) = none

true_or_false : (b : Bool) → (b ≡ true) ⊎ (b ≡ false)
true_or_false true = inl refl
true_or_false false = inr refl

or_none : (a b : Bool) → (a || b) ≡ false → (a ≡ false) × (b ≡ false)
or_none true b none = absurd cc
or_none false b none = (refl, none)

module _ (units : List SubtitleUnit) (heads : List Head) (head : Head) (old : PageListing)
    (listing : IsListing units heads old) where
  over_full : (page : ℕ) → IsPassedOver units heads old.entries page → old.more ≡ true
  over_full page over =
      elim (true_or_false old.more) [ inl more ↦ more | inr none ↦ absurd (listing.all none page over) ]

  -- entries that are all lower than the page, and full, stay
  full_stays : AllByRecursion (λ entry. entry.page < head.page) old.entries → old.more ≡ true
      → take 64 (noted head old.entries) ≡ old.entries
  full_stays lower more =
      ap (take 64) (noted_last head old.entries lower)
      ∙ take-append-le 64 old.entries (with_segment head.kind (fresh head.page) ∷ []) (omega (arith, listing.full more))
      ∙ take_all 64 old.entries listing.few

  new_tallied : AllByRecursion (IsTallied units (heads ++ head ∷ [])) (take 64 (noted head old.entries))
  new_tallied =
      elim (true_or_false (is_in head.page (pages_of old.entries))) [
        | inl there ↦ all_take (IsTallied units (heads ++ head ∷ [])) 64 (noted head old.entries)
            (all_tallied units heads head old.entries listing.rising listing.tallied (inl there))
        | inr out ↦ elim (true_or_false (is_met head.page units heads)) [
          | inl met ↦ over (record { met = met; left_out = out })
          | inr unmet ↦ all_take (IsTallied units (heads ++ head ∷ [])) 64 (noted head old.entries)
              (all_tallied units heads head old.entries listing.rising listing.tallied (inr unmet))
        ]
      ]
    where
      over : IsPassedOver units heads old.entries head.page
          → AllByRecursion (IsTallied units (heads ++ head ∷ [])) (take 64 (noted head old.entries))
      over passed =
          let lower = listing.lowest head.page passed in
          subst (AllByRecursion (IsTallied units (heads ++ head ∷ [])))
          (sym (full_stays lower (over_full head.page passed)))
          (others units heads head old.entries
          (all_weaker (λ (entry : PageTally). entry.page < head.page) (λ entry. entry.page ≡ head.page → ⊥) old.entries
          (λ entry low same. omega (arith, low, same)) lower)
          listing.tallied)

  met_there : (page : ℕ) → is_met page units heads ≡ true → is_met page units (heads ++ head ∷ []) ≡ true
  met_there page met = met_more page units heads head ∙ ap (λ b. b || (head.page == page)) met

  met_here : is_met head.page units (heads ++ head ∷ []) ≡ true
  met_here =
      let same : (head.page == head.page) ≡ true = grind (arith, nat_tests) in
      met_more head.page units heads head ∙ ap (λ b. is_met head.page units heads || b) same
      ∙ or_true (is_met head.page units heads)
    where
      or_true : (b : Bool) → (b || true) ≡ true
      or_true true = refl
      or_true false = refl

  all_met : AllByRecursion (λ page. is_met page units (heads ++ head ∷ []) ≡ true) (pages_of (noted head old.entries))
  all_met =
      noted_all (λ page. is_met page units (heads ++ head ∷ []) ≡ true) head old.entries met_here
      (all_weaker (λ page. is_met page units heads ≡ true) (λ page. is_met page units (heads ++ head ∷ []) ≡ true)
      (pages_of old.entries) met_there
      (all_map (λ page. is_met page units heads ≡ true) (λ (entry : PageTally). entry.page) old.entries listing.met))

  pages_kept : pages_of (take 64 (noted head old.entries)) ≡ take 64 (pages_of (noted head old.entries))
  pages_kept = sym (take-map (λ (entry : PageTally). entry.page) 64 (noted head old.entries))

  new_rising : AreRising (pages_of (take 64 (noted head old.entries)))
  new_rising =
      subst AreRising (sym pages_kept)
      (rising_take 64 (pages_of (noted head old.entries)) (noted_rising head old.entries listing.rising))

  -- a page that is passed over now, and is not that of the segment, was passed over before
  record WasOver (page : ℕ) : Type 0 where
    before : IsPassedOver units heads old.entries page
    apart : (head.page == page) ≡ false

  was_over : (page : ℕ) → is_in page (pages_of (noted head old.entries)) ≡ false
      → is_met page units (heads ++ head ∷ []) ≡ true → WasOver page
  was_over page out met =
      let both =
      or_none (head.page == page) (is_in page (pages_of old.entries))
      (sym (noted_is_in head page old.entries) ∙ out) in
      let earlier : (is_met page units heads || (head.page == page)) ≡ true =
      sym (met_more page units heads head) ∙ met in
      record {
        before = record {
          met = or_left (is_met page units heads) (head.page == page) both.0 earlier;
          left_out = both.1;
        };
        apart = both.0;
      }
    where
      or_left : (a b : Bool) → b ≡ false → (a || b) ≡ true → a ≡ true
      or_left true b none is = refl
      or_left false b none is = absurd cc

  new_few : length (take 64 (noted head old.entries)) ≤ 64
  new_few = omega (arith, length-take 64 (noted head old.entries))

  new_all : (old.more || nat_lt 64 (length (noted head old.entries))) ≡ false → (page : ℕ)
      → IsPassedOver units (heads ++ head ∷ []) (take 64 (noted head old.entries)) page → ⊥
  new_all none page over =
      let both = or_none old.more (nat_lt 64 (length (noted head old.entries))) none in
      let tells = leb_tells 65 (length (noted head old.entries)) in
      let fits : length (noted head old.entries) ≤ 64 = grind (arith, nat_tests) in
      let whole : take 64 (noted head old.entries) ≡ noted head old.entries =
      take_all 64 (noted head old.entries) fits in
      let was =
      was_over page (subst (λ (es : List PageTally). is_in page (pages_of es) ≡ false) whole over.left_out) over.met
      in
      listing.all both.0 page was.before

  new_lowest : (page : ℕ) → IsPassedOver units (heads ++ head ∷ []) (take 64 (noted head old.entries)) page
      → AllByRecursion (λ entry. entry.page < page) (take 64 (noted head old.entries))
  new_lowest page over =
      elim (true_or_false (is_in page (pages_of (noted head old.entries)))) [
        | inl there ↦ all_of_map (λ told. told < page) (λ (entry : PageTally). entry.page)
            (take 64 (noted head old.entries))
            (subst (AllByRecursion (λ told. told < page)) (sym pages_kept)
            (higher_than_first page 64 (pages_of (noted head old.entries))
            (noted_rising head old.entries listing.rising) there
            (subst (λ (ps : List ℕ). is_in page ps ≡ false) pages_kept over.left_out)))
        | inr out ↦ behind (was_over page out over.met)
      ]
    where
      behind : WasOver page → AllByRecursion (λ entry. entry.page < page) (take 64 (noted head old.entries))
      behind was =
          let lower = listing.lowest page was.before in
          let more = over_full page was.before in
          elim (leb_tells (suc head.page) page) [
            | inl low ↦ all_take (λ (entry : PageTally). entry.page < page) 64 (noted head old.entries)
                (all_of_map (λ told. told < page) (λ (entry : PageTally). entry.page) (noted head old.entries)
                (noted_all (λ told. told < page) head old.entries low.1
                (all_map (λ told. told < page) (λ (entry : PageTally). entry.page) old.entries lower)))
            | inr high ↦ (
                let apart = was.apart in
                let above : page < head.page = grind (arith, nat_tests) in
                let stays =
                full_stays
                (all_weaker (λ (entry : PageTally). entry.page < page) (λ entry. entry.page < head.page) old.entries
                (λ entry low. omega (arith, low, above)) lower) more in
                subst (AllByRecursion (λ (entry : PageTally). entry.page < page)) (sym stays) lower)
          ]

  new_full : (old.more || nat_lt 64 (length (noted head old.entries))) ≡ true
      → length (take 64 (noted head old.entries)) ≡ 64
  new_full more =
      let grows = noted_length head old.entries in
      elim (true_or_false old.more) [
        | inl was ↦ omega (arith, listing.full was, grows.least, length-take 64 (noted head old.entries))
        | inr none ↦ (
            let over : nat_lt 64 (length (noted head old.entries)) ≡ true =
            cc_or old.more (nat_lt 64 (length (noted head old.entries))) none more in
            let tells = leb_tells 65 (length (noted head old.entries)) in
            let long : 64 < length (noted head old.entries) = grind (arith, nat_tests) in
            omega (arith, long, length-take 64 (noted head old.entries)))
      ]
    where
      cc_or : (a b : Bool) → a ≡ false → (a || b) ≡ true → b ≡ true
      cc_or true b none is = absurd cc
      cc_or false b none is = is

  new_some : (old.more || nat_lt 64 (length (noted head old.entries))) ≡ true
      → (page : ℕ) × IsPassedOver units (heads ++ head ∷ []) (take 64 (noted head old.entries)) page
  new_some more =
      elim (true_or_false old.more) [ inl was ↦ earlier was (listing.some was) | inr none ↦ dropped none ]
    where
      cc_or : (a b : Bool) → a ≡ false → (a || b) ≡ true → b ≡ true
      cc_or true b none is = absurd cc
      cc_or false b none is = is

      dropped : old.more ≡ false
          → (page : ℕ) × IsPassedOver units (heads ++ head ∷ []) (take 64 (noted head old.entries)) page
      dropped none =
          let over : nat_lt 64 (length (noted head old.entries)) ≡ true =
          cc_or old.more (nat_lt 64 (length (noted head old.entries))) none more in
          let tells = leb_tells 65 (length (noted head old.entries)) in
          let long : 64 < length (noted head old.entries) = grind (arith, nat_tests) in
          let some =
          some_dropped 64 (pages_of (noted head old.entries)) (noted_rising head old.entries listing.rising)
          (omega (arith, long, length-map (noted head old.entries) (λ (entry : PageTally). entry.page))) in (
            some.0,
            record {
              met =
                  all_in (λ page. is_met page units (heads ++ head ∷ []) ≡ true) some.0
                  (pages_of (noted head old.entries)) all_met some.1;
              left_out = subst (λ (ps : List ℕ). is_in some.0 ps ≡ false) (sym pages_kept) some.2;
            },
          )

      earlier : old.more ≡ true → ((page : ℕ) × IsPassedOver units heads old.entries page)
          → (page : ℕ) × IsPassedOver units (heads ++ head ∷ []) (take 64 (noted head old.entries)) page
      earlier was some = (some.0, record { met = met_there some.0 some.1.met; left_out = out })
        where
          lower : AllByRecursion (λ entry. entry.page < some.0) old.entries
          lower = listing.lowest some.0 some.1

          out : is_in some.0 (pages_of (take 64 (noted head old.entries))) ≡ false
          out =
              elim (eqb_tells head.page some.0) [
                | inl same ↦ (
                    let stays =
                    full_stays
                    (subst (λ page. AllByRecursion (λ (entry : PageTally). entry.page < page) old.entries)
                    (sym same.1) lower) was in
                    subst (λ (es : List PageTally). is_in some.0 (pages_of es) ≡ false) (sym stays) some.1.left_out)
                | inr apart ↦ subst (λ (ps : List ℕ). is_in some.0 ps ≡ false) (sym pages_kept)
                    (in_take some.0 64 (pages_of (noted head old.entries))
                    (noted_is_in head some.0 old.entries
                    ∙ ap (λ b. b || is_in some.0 (pages_of old.entries)) apart.0 ∙ some.1.left_out))
              ]

  pub listing_noted : IsListing units (heads ++ head ∷ []) (record {
    entries = take 64 (noted head old.entries);
    more = old.more || nat_lt 64 (length (noted head old.entries));
  })
  listing_noted = record {
    rising = new_rising;
    few = new_few;
    tallied = new_tallied;
    met =
        all_take (λ (entry : PageTally). is_met entry.page units (heads ++ head ∷ []) ≡ true) 64
        (noted head old.entries)
        (all_of_map (λ page. is_met page units (heads ++ head ∷ []) ≡ true) (λ (entry : PageTally). entry.page)
        (noted head old.entries) all_met);
    all = new_all;
    some = new_some;
    full = new_full;
    lowest = new_lowest;
  }

-- ---- a PES packet more

module _ (units : List SubtitleUnit) (unit : SubtitleUnit) (old : PageListing)
    (listing : IsListing units unit.heads old) where
  closed_pages : (entries : List PageTally) → pages_of (map closed entries) ≡ pages_of entries
  closed_pages [] = refl
  closed_pages (entry ∷ entries) = λ i. closed_page entry i ∷ closed_pages entries i

  closed_tallied : (entries : List PageTally) → AllByRecursion (IsTallied units unit.heads) entries
      → AllByRecursion (IsTallied (units ++ unit ∷ []) []) (map closed entries)
  closed_tallied [] each = tt
  closed_tallied (entry ∷ entries) each = (tallied_closed units unit entry each.0, closed_tallied entries each.1)

  was_met : (page : ℕ) → is_met page (units ++ unit ∷ []) [] ≡ is_met page units unit.heads
  was_met page = named_more page units unit

  still_over : (page : ℕ) → IsPassedOver (units ++ unit ∷ []) [] (map closed old.entries) page
      → IsPassedOver units unit.heads old.entries page
  still_over page over = record {
    met = sym (was_met page) ∙ over.met;
    left_out = subst (λ (ps : List ℕ). is_in page ps ≡ false) (closed_pages old.entries) over.left_out;
  }

  now_over : (page : ℕ) → IsPassedOver units unit.heads old.entries page
      → IsPassedOver (units ++ unit ∷ []) [] (map closed old.entries) page
  now_over page over = record {
    met = was_met page ∙ over.met;
    left_out = subst (λ (ps : List ℕ). is_in page ps ≡ false) (sym (closed_pages old.entries)) over.left_out;
  }

  -- what holds of the pages of all entries holds of those of the closed ones
  of_closed : (P : ℕ → Type 0) → AllByRecursion (λ (entry : PageTally). P entry.page) old.entries
      → AllByRecursion (λ (entry : PageTally). P entry.page) (map closed old.entries)
  of_closed P each =
      all_of_map P (λ (entry : PageTally). entry.page) (map closed old.entries)
      (subst (AllByRecursion P) (sym (closed_pages old.entries))
      (all_map P (λ (entry : PageTally). entry.page) old.entries each))

  pub listing_closed : IsListing (units ++ unit ∷ []) [] (record { entries = map closed old.entries; more = old.more })
  listing_closed = record {
    rising = subst AreRising (sym (closed_pages old.entries)) listing.rising;
    few = omega (arith, listing.few, length-map old.entries closed);
    tallied = closed_tallied old.entries listing.tallied;
    met = of_closed (λ page. is_met page (units ++ unit ∷ []) [] ≡ true)
        (all_weaker (λ (entry : PageTally). is_met entry.page units unit.heads ≡ true)
        (λ entry. is_met entry.page (units ++ unit ∷ []) [] ≡ true) old.entries (λ entry met. was_met entry.page ∙ met)
        listing.met);
    all = λ none page over. listing.all none page (still_over page over);
    some = λ more. let some = listing.some more in (some.0, now_over some.0 some.1);
    full = λ more. length-map old.entries closed ∙ listing.full more;
    lowest = λ page over. of_closed (λ told. told < page) (listing.lowest page (still_over page over));
  }

-- ---- what is told

module _ (units : List SubtitleUnit) (old : PageListing) (listing : IsListing units [] old) where
  named_is : (page : ℕ) → is_met page units [] ≡ is_named page units
  named_is page = or_false (is_named page units)
    where
      or_false : (b : Bool) → (b || false) ≡ b
      or_false true = refl
      or_false false = refl

  as_over : (page : ℕ) → IsLeftOut units (pages_of old.entries) page → IsPassedOver units [] old.entries page
  as_over page out = record { met = named_is page ∙ out.named; left_out = out.left_out }

  pub listing_told : AreTold units (pages_of old.entries) old.more
  listing_told = record {
    rising = listing.rising;
    few = omega (arith, listing.few, length-map old.entries (λ (entry : PageTally). entry.page));
    named = all_weaker (λ page. is_met page units [] ≡ true) (λ page. is_named page units ≡ true) (pages_of old.entries)
        (λ page met. sym (named_is page) ∙ met)
        (all_map (λ page. is_met page units [] ≡ true) (λ (entry : PageTally). entry.page) old.entries listing.met);
    all = λ none page out. listing.all none page (as_over page out);
    some = λ more. let some = listing.some more in (
      some.0,
      record {
        named = sym (named_is some.0) ∙ some.1.met;
        left_out = some.1.left_out;
      },
    );
    full = λ more. length-map old.entries (λ (entry : PageTally). entry.page) ∙ listing.full more;
    lowest =
        λ page out. all_map (λ told. told < page) (λ (entry : PageTally). entry.page) old.entries
        (listing.lowest page (as_over page out));
  }
