-- What is given for each item of a list by those before it.
use Rattle.std.proofs.Common.{◌≡◌, ◌∙◌, suc, List, [], ◌∷◌, ◌++◌, length, map, reverse, refl, sym, ap, append-nil, append_assoc}
use Rattle.std.proofs.lemmas.List.{map-append, reverse-append, reverse-reverse}
use Rattle.sub_base.specs.Lists.{with_earlier}
use Rattle.decoder_model.specs.Readings.{Reading}
use Rattle.decoder_model.specs.Sets.{Delivery}
use Rattle.received_level_laws.specs.StreamCalls.{each_behind}

-- the item that is read last stands first
one_turned : {X : Type 0} (x : X) (xs older : List X) → reverse xs ++ x ∷ older ≡ reverse (x ∷ xs) ++ older
one_turned x xs older = sym (append_assoc (reverse xs) (x ∷ []) older)
    ∙ ap (λ front. front ++ older) (sym (reverse-append (x ∷ []) xs))

pub with_earlier-append : {X : Type 0} (older xs ys : List X)
    → with_earlier older (xs ++ ys) ≡ with_earlier older xs ++ with_earlier (reverse xs ++ older) ys
with_earlier-append older [] ys = refl
with_earlier-append {X} older (x ∷ xs) ys =
    ap {B = List (X × List X)} (λ rest. (x, older) ∷ rest) (with_earlier-append (x ∷ older) xs ys
    ∙ ap {B = List (X × List X)} (λ before. with_earlier (x ∷ older) xs ++ with_earlier before ys)
    (one_turned x xs older))

pub with_earlier_count : {X : Type 0} (older xs : List X) → length (with_earlier older xs) ≡ length xs
with_earlier_count older [] = refl
with_earlier_count older (x ∷ xs) = ap suc (with_earlier_count (x ∷ older) xs)

-- ---- sets and losses

pub each_count : {Y : Type 0} (given : List (Delivery Reading) → Delivery Reading → Y)
    (older received : List (Delivery Reading)) → length (each_behind given older received) ≡ length received
each_count given older [] = refl
each_count given older (one ∷ received) = ap suc (each_count given (one ∷ older) received)

-- where more is received, what is given for it comes behind what was given before
pub each_more : {Y : Type 0} (given : List (Delivery Reading) → Delivery Reading → Y)
    (past more : List (Delivery Reading))
    → each_behind given [] (reverse (more ++ past)) ≡ each_behind given [] (reverse past)
    ++ each_behind given past (reverse more)
each_more {Y} given past more =
    let of_placed : Delivery Reading × List (Delivery Reading) → Y = λ placed. given placed.1 placed.0 in
    ap {B = List Y} (λ all. each_behind given [] all) (reverse-append more past)
    ∙ ap {B = List Y} (map of_placed) (with_earlier-append [] (reverse past) (reverse more))
    ∙ map-append of_placed (with_earlier [] (reverse past))
    (with_earlier (reverse (reverse past) ++ []) (reverse more))
    ∙ ap {B = List Y} (λ older. each_behind given [] (reverse past) ++ each_behind given older (reverse more))
    (append-nil (reverse (reverse past)) ∙ reverse-reverse past)

-- one more, behind those that came
pub each_last : {Y : Type 0} (given : List (Delivery Reading) → Delivery Reading → Y)
    (past more : List (Delivery Reading)) (one : Delivery Reading)
    → each_behind given past (reverse (one ∷ more)) ≡ each_behind given past (reverse more)
    ++ given (more ++ past) one ∷ []
each_last {Y} given past more one =
    let of_placed : Delivery Reading × List (Delivery Reading) → Y = λ placed. given placed.1 placed.0 in
    ap {B = List Y} (λ all. each_behind given past all) (reverse-append (one ∷ []) more)
    ∙ ap {B = List Y} (map of_placed) (with_earlier-append past (reverse more) (one ∷ []))
    ∙ map-append of_placed (with_earlier past (reverse more))
    (with_earlier (reverse (reverse more) ++ past) (one ∷ []))
    ∙ ap {B = List Y} (λ turned. each_behind given past (reverse more) ++ given (turned ++ past) one ∷ [])
    (reverse-reverse more)
