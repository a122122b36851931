-- What workers and desks hold: workers, and desks.
use Rattle.std.proofs.Common.{refl}
use Rattle.triple_arena_ptr.specs.declared.P0.{P0}
use Rattle.triple_arena_direct.specs.Holding.{Holding, itself, nothing, option, part}
use Rattle.triple_arena_direct_uses.specs.declared.office.Worker.{Worker}
use Rattle.triple_arena_direct_uses.specs.declared.office.Desk.{Desk}

abbrev pub workers_of_worker : Holding P0 Worker
workers_of_worker = part {S = Worker} (λ s. s.leader) (λ s leader. record s { leader = leader }) (λ s a. refl) (λ s. refl) (λ s a b. refl) (option itself)

abbrev pub desks_of_worker : Holding P0 Worker
desks_of_worker = part {S = Worker} (λ s. s.desk) (λ s desk. record s { desk = desk }) (λ s a. refl) (λ s. refl) (λ s a b. refl) (option itself)

abbrev pub workers_of_desk : Holding P0 Desk
workers_of_desk = part {S = Desk} (λ s. s.owner) (λ s owner. record s { owner = owner }) (λ s a. refl) (λ s. refl) (λ s a b. refl) (option itself)

abbrev pub desks_of_desk : Holding P0 Desk
desks_of_desk = nothing
