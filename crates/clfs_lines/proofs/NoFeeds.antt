-- Bytes in which no line feed stands.
use Rattle.std.proofs.Common.{◌≡◌, ℕ, List, [], ◌++◌, false}
use Rattle.std.proofs.lemmas.List.Elements.{All-nil, All-same, All-append}
use Rattle.clfs_race.specs.Feeds.{is_feed, HasNoFeed}

-- bytes that are none, those that are the same, and those of two parts
pub none_in_none : (bytes : List ℕ) → bytes ≡ [] → HasNoFeed bytes
none_in_none bytes none = All-same (λ (byte : ℕ). is_feed byte ≡ false) bytes [] none (All-nil (λ (byte : ℕ). is_feed byte ≡ false))

pub none_in_same : (bytes others : List ℕ) → bytes ≡ others → HasNoFeed others → HasNoFeed bytes
none_in_same bytes others same none = All-same (λ (byte : ℕ). is_feed byte ≡ false) bytes others same none

pub none_in_both : (front back : List ℕ) → HasNoFeed front → HasNoFeed back → HasNoFeed (front ++ back)
none_in_both front back none also_none = All-append (λ (byte : ℕ). is_feed byte ≡ false) front back none also_none
