-- What the table's checks say of the numbers in the fields.
use Rattle.clfs_base.proofs.Words.{◌≡◌, ◌≢◌, inl, inr, ℕ, ◌+◌, ◌-◌, ◌*◌, ◌^◌, ◌≤◌, Bool, true, false, not, ◌||◌, ◌&&◌, eqb, leb, ltb, cond, List, [], ◌∷◌}
use Rattle.clfs_base.proofs.Words.{length, find, Option, Some, None, refl, ◌∙◌, ap, arith, cases_eq, nat_tests, option_map, most_containers, Field, Layout}
use Rattle.clfs_base.proofs.Words.{Numbers, fields, most_minimum, most_tail, most_dedicated, IsPolicy, is_wrong_field, wrong_field}
use Rattle.clfs_lsn.specs.Limits.{most_block_sectors, most_container_sectors}
use Rattle.clfs_base.specs.Layout.{most_listed}

-- the ranges of the table
pub record IsRight (layout : Layout) (n : Numbers) : Type 0 where
  pub version : n.version ≡ layout.version
  pub turn : n.turn ≤ 2
  pub zero_is : n.zero ≡ 0
  pub block : (1 ≤ n.block_sectors) × (n.block_sectors ≤ most_block_sectors)
  pub container : (2 * n.block_sectors ≤ n.container_sectors) × (n.container_sectors ≤ most_container_sectors)
  pub containers : (1 ≤ n.containers) × (n.containers ≤ most_containers)
  pub files_made : (n.containers ≤ n.files_made) × (n.files_made ≤ most_containers)
  pub first : (1 ≤ n.first) × (n.first ≤ 2 ^ 32 - 1)
  pub listed : (1 ≤ n.listed) × (n.listed ≤ most_listed n.containers n.first)
  pub streams : n.streams ≤ layout.most_streams
  pub archiving : n.archiving ≤ 1
  pub automatic : n.automatic ≤ 1
  pub maximum : IsPolicy 2 most_containers n.maximum
  pub minimum : IsPolicy 2 (most_minimum n.maximum) n.minimum
  pub growth : n.growth ≤ most_containers - 2
  pub tail : n.tail ≤ most_tail n.archiving
  pub dedicated : n.dedicated ≤ most_dedicated layout n.streams

-- each field of a table passes
pub AllPass : List ℕ → List Field → Type 0
AllPass bytes [] = Unit {0}
AllPass bytes (f ∷ fs) = (is_wrong_field bytes f ≡ false) × AllPass bytes fs

in_range : (size at width number least most : ℕ) → at + width ≤ size → least ≤ number → number ≤ most
    → (ltb size (at + width) || not ((false && eqb number 0) || (leb least number && leb number most))) ≡ false
in_range size at width number least most there low high = grind (arith, nat_tests)

in_policy : (size at width number least most : ℕ) → at + width ≤ size → IsPolicy least most number
    → (ltb size (at + width) || not ((true && eqb number 0) || (leb least number && leb number most))) ≡ false
in_policy size at width number least most there (inl none) = grind (arith, nat_tests)
in_policy size at width number least most there (inr is) = installed is.0 is.1
  where
    installed : least ≤ number → number ≤ most → (ltb size (at + width) || not ((true && eqb number 0) || (leb least number && leb number most))) ≡ false
    installed low high = grind (arith, nat_tests)

range_is : (size at width number least most : ℕ) → (ltb size (at + width) || not ((false && eqb number 0) || (leb least number && leb number most))) ≡ false
    → (at + width ≤ size) × (least ≤ number) × (number ≤ most)
range_is size at width number least most e = (grind (arith, nat_tests), grind (arith, nat_tests), grind (arith, nat_tests))

-- numbers in their ranges, in bytes that are there, pass
pub right_pass : (layout : Layout) (n : Numbers) (bytes : List ℕ) → 41 ≤ length bytes → IsRight layout n → AllPass bytes (fields layout n)
unfolding AllPass
right_pass layout n bytes there r =
    let size = length bytes in (
      in_range size 1 1 n.version layout.version layout.version (omega (arith, there)) (omega (arith, r.version)) (omega (arith, r.version)),
      (
        in_range size 2 1 n.turn 0 2 (omega (arith, there)) (omega arith) r.turn,
        (
          in_range size 3 1 n.zero 0 0 (omega (arith, there)) (omega arith) (omega (arith, r.zero_is)),
          (
            in_range size 4 4 n.block_sectors 1 most_block_sectors (omega (arith, there)) r.block.0 r.block.1,
            (
              in_range size 8 4 n.container_sectors (2 * n.block_sectors) most_container_sectors (omega (arith, there)) r.container.0 r.container.1,
              (
                in_range size 12 2 n.containers 1 most_containers (omega (arith, there)) r.containers.0 r.containers.1,
                (
                  in_range size 14 2 n.files_made n.containers most_containers (omega (arith, there)) r.files_made.0 r.files_made.1,
                  (
                    in_range size 16 4 n.first 1 (2 ^ 32 - 1) (omega (arith, there)) r.first.0 r.first.1,
                    (
                      in_range size 20 2 n.listed 1 (most_listed n.containers n.first) (omega (arith, there)) r.listed.0 r.listed.1,
                      (
                        in_range size 22 2 n.streams 0 layout.most_streams (omega (arith, there)) (omega arith) r.streams,
                        (
                          in_range size 24 1 n.archiving 0 1 (omega (arith, there)) (omega arith) r.archiving,
                          (
                            in_range size 25 1 n.automatic 0 1 (omega (arith, there)) (omega arith) r.automatic,
                            (
                              in_policy size 26 2 n.maximum 2 most_containers (omega (arith, there)) r.maximum,
                              (
                                in_policy size 28 2 n.minimum 2 (most_minimum n.maximum) (omega (arith, there)) r.minimum,
                                (
                                  in_range size 30 2 n.growth 0 (most_containers - 2) (omega (arith, there)) (omega arith) r.growth,
                                  (
                                    in_range size 32 8 n.tail 0 (most_tail n.archiving) (omega (arith, there)) (omega arith) r.tail,
                                    (
                                      in_range size 40 1 n.dedicated 0 (most_dedicated layout n.streams) (omega (arith, there)) (omega arith) r.dedicated,
                                      tt,
                                    ),
                                  ),
                                ),
                              ),
                            ),
                          ),
                        ),
                      ),
                    ),
                  ),
                ),
              ),
            ),
          ),
        ),
      ),
    )

-- where each passes none is wrong, and the other way round
pub none_wrong : (bytes : List ℕ) (fs : List Field) → AllPass bytes fs → wrong_field bytes fs ≡ None
unfolding AllPass
none_wrong bytes [] pass = refl
none_wrong bytes (f ∷ fs) pass =
    ap (λ (b : Bool). option_map (λ (g : Field). g.at) (cond b (Some f) (find (is_wrong_field bytes) fs))) pass.0 ∙ none_wrong bytes fs pass.1

pub all_pass : (bytes : List ℕ) (fs : List Field) → wrong_field bytes fs ≡ None → AllPass bytes fs
unfolding AllPass
all_pass bytes [] none = tt
all_pass bytes (f ∷ fs) none =
    let parts = passed (is_wrong_field bytes f) (find (is_wrong_field bytes) fs) none in (parts.0, all_pass bytes fs parts.1)
  where
    passed : (b : Bool) (rest : Option Field) → option_map (λ (g : Field). g.at) (cond b (Some f) rest) ≡ None
        → (b ≡ false) × (option_map (λ (g : Field). g.at) rest ≡ None)
    passed true rest e = absurd (cc e)
    passed false rest e = (refl, e)

policy_is : (size at width number least most : ℕ) → (ltb size (at + width) || not ((true && eqb number 0) || (leb least number && leb number most))) ≡ false
    → IsPolicy least most number
policy_is size at width number least most e = elim (cases_eq number 0) [
  | inl none ↦ inl none
  | inr some ↦ inr (low some, high some)
]
  where
    low : number ≢ 0 → least ≤ number
    low some = grind (arith, nat_tests)

    high : number ≢ 0 → number ≤ most
    high some = grind (arith, nat_tests)

-- numbers that pass are in their ranges, in bytes that are there
pub pass_right : (layout : Layout) (n : Numbers) (bytes : List ℕ) → AllPass bytes (fields layout n) → IsRight layout n × (41 ≤ length bytes)
unfolding AllPass
pass_right layout n bytes (p1, (p2, (p3, (p4, (p8, (p12, (p14, (p16, (p20, (p22, (p24, (p25, (p26, (p28, (p30, (p32, (p40, last))))))))))))))))) =
    let size = length bytes in
    let version = range_is size 1 1 n.version layout.version layout.version p1 in
    let dedicated = range_is size 40 1 n.dedicated 0 (most_dedicated layout n.streams) p40 in
    let block = range_is size 4 4 n.block_sectors 1 most_block_sectors p4 in
    let container = range_is size 8 4 n.container_sectors (2 * n.block_sectors) most_container_sectors p8 in
    let containers = range_is size 12 2 n.containers 1 most_containers p12 in
    let made = range_is size 14 2 n.files_made n.containers most_containers p14 in
    let first = range_is size 16 4 n.first 1 (2 ^ 32 - 1) p16 in
    let listed = range_is size 20 2 n.listed 1 (most_listed n.containers n.first) p20 in (
      record {
        version = omega (arith, version.1, version.2);
        turn = (range_is size 2 1 n.turn 0 2 p2).2;
        zero_is = omega (arith, (range_is size 3 1 n.zero 0 0 p3).2);
        block = (block.1, block.2);
        container = (container.1, container.2);
        containers = (containers.1, containers.2);
        files_made = (made.1, made.2);
        first = (first.1, first.2);
        listed = (listed.1, listed.2);
        streams = (range_is size 22 2 n.streams 0 layout.most_streams p22).2;
        archiving = (range_is size 24 1 n.archiving 0 1 p24).2;
        automatic = (range_is size 25 1 n.automatic 0 1 p25).2;
        maximum = policy_is size 26 2 n.maximum 2 most_containers p26;
        minimum = policy_is size 28 2 n.minimum 2 (most_minimum n.maximum) p28;
        growth = (range_is size 30 2 n.growth 0 (most_containers - 2) p30).2;
        tail = (range_is size 32 8 n.tail 0 (most_tail n.archiving) p32).2;
        dedicated = dedicated.2;
      },
      omega (arith, dedicated.0),
    )
