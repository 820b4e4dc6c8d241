-- What a history says of open requests doesn't ask which configuration is in force: only what the server is to others, and its word.
use Rattle.std.proofs.Common.{ℕ, List, Option, Some, None}
use Rattle.sip_message_form.specs.declared.message.Message.{Message}
use Rattle.sip_config_types.specs.declared.config.Config.{Config}
use Rattle.model_steps.specs.state.declared.server.Server.{Server}
use Rattle.model_steps.specs.state.declared.open_request.OpenRequest.{OpenRequest}
use Rattle.sip_model.specs.Run.{Link, under}
use Rattle.sip_model.specs.Access.{CameFor, WasCancelled, WasGivenUp, ByCaller, ByAnswer}
use Rattle.sip_model.proofs.Lists.{all_weaker}
use Rattle.sip_model.proofs.Finals.{IsHonest, IsHonestAs, IsHonestRequest, AreHonest}

pub came_under : (server : Server) (config : Config) (history : List Link) (number status : ℕ) (m : Message) → CameFor server history number status m
    → CameFor (under server config) history number status m
came_under server config history number status m c =
    record {
      link = c.link;
      a = c.a;
      bytes = c.bytes;
      reason = c.reason;
      request = c.request;
      branch = c.branch;
      is_there = c.is_there;
      is_said = c.is_said;
      is_response = c.is_response;
      is_for = c.is_for;
      is_number = c.is_number;
      is_target = c.is_target;
    }

pub came_back : (server : Server) (config : Config) (history : List Link) (number status : ℕ) (m : Message) → CameFor (under server config) history number status m
    → CameFor server history number status m
came_back server config history number status m c =
    record {
      link = c.link;
      a = c.a;
      bytes = c.bytes;
      reason = c.reason;
      request = c.request;
      branch = c.branch;
      is_there = c.is_there;
      is_said = c.is_said;
      is_response = c.is_response;
      is_for = c.is_for;
      is_number = c.is_number;
      is_target = c.is_target;
    }

cancelled_under : (server : Server) (config : Config) (history : List Link) (number : ℕ) → WasCancelled server history number
    → WasCancelled (under server config) history number
cancelled_under server config history number c =
    record {
      link = c.link;
      a = c.a;
      bytes = c.bytes;
      m = c.m;
      short = c.short;
      key = c.key;
      request = c.request;
      is_there = c.is_there;
      is_said = c.is_said;
      is_cancel = c.is_cancel;
      key_is = c.key_is;
      names_it = c.names_it;
      is_number = c.is_number;
    }

cancelled_back : (server : Server) (config : Config) (history : List Link) (number : ℕ) → WasCancelled (under server config) history number
    → WasCancelled server history number
cancelled_back server config history number c =
    record {
      link = c.link;
      a = c.a;
      bytes = c.bytes;
      m = c.m;
      short = c.short;
      key = c.key;
      request = c.request;
      is_there = c.is_there;
      is_said = c.is_said;
      is_cancel = c.is_cancel;
      key_is = c.key_is;
      names_it = c.names_it;
      is_number = c.is_number;
    }

pub given_up_under : (server : Server) (config : Config) (history : List Link) (number : ℕ) → WasGivenUp server history number
    → WasGivenUp (under server config) history number
given_up_under server config history number (ByCaller c) = ByCaller (cancelled_under server config history number c)
given_up_under server config history number (ByAnswer status response came ends) = ByAnswer status response (came_under server config history number status response came)
    ends

pub given_up_back : (server : Server) (config : Config) (history : List Link) (number : ℕ) → WasGivenUp (under server config) history number
    → WasGivenUp server history number
given_up_back server config history number (ByCaller c) = ByCaller (cancelled_back server config history number c)
given_up_back server config history number (ByAnswer status response came ends) = ByAnswer status response (came_back server config history number status response came)
    ends

as_under : (server : Server) (config : Config) (history : List Link) (number status : ℕ) (o : Option Message) → IsHonestAs server history number status o
    → IsHonestAs (under server config) history number status o
as_under server config history number status None h = h
as_under server config history number status (Some m) h = record {
  response = h.response;
  came = came_under server config history number status h.response h.came;
  is_same = h.is_same;
}

as_back : (server : Server) (config : Config) (history : List Link) (number status : ℕ) (o : Option Message) → IsHonestAs (under server config) history number status o
    → IsHonestAs server history number status o
as_back server config history number status None h = h
as_back server config history number status (Some m) h = record {
  response = h.response;
  came = came_back server config history number status h.response h.came;
  is_same = h.is_same;
}

pub honest_under : (server : Server) (config : Config) (history : List Link) (requests : List OpenRequest) → AreHonest server history requests
    → AreHonest (under server config) history requests
honest_under server config history requests h =
    all_weaker (IsHonestRequest server history) (IsHonestRequest (under server config) history)
    (λ r own. record {
      finals = all_weaker (IsHonest server history r.number) (IsHonest (under server config) history r.number)
          (λ f. as_under server config history r.number f.status f.message) r.finals own.finals;
      marks = own.marks;
      differ = own.differ;
      numbers = own.numbers;
    }) requests h

pub honest_back : (server : Server) (config : Config) (history : List Link) (requests : List OpenRequest) → AreHonest (under server config) history requests
    → AreHonest server history requests
honest_back server config history requests h =
    all_weaker (IsHonestRequest (under server config) history) (IsHonestRequest server history)
    (λ r own. record {
      finals = all_weaker (IsHonest (under server config) history r.number) (IsHonest server history r.number)
          (λ f. as_back server config history r.number f.status f.message) r.finals own.finals;
      marks = own.marks;
      differ = own.differ;
      numbers = own.numbers;
    }) requests h
